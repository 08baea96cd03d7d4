use Rattle.std.proofs.Common.{rules, ◌≡◌, ◌∷◌, ◌++◌, ℕ, List, sym, ap, ◌∙◌}
use Rattle.std.specs.Fmt.{decimal}
use Rattle.std.specs.Prelude.{slice_get}
use Rattle.std.specs.String.{string_bytes}
use Rattle.tr_record.specs.Records.{Entry}
use Rattle.tr_replies.specs.Snapshots.{serial_text}
use Rattle.tr_replies.proofs.PacketLemmas.{last_told, line_is, line_told}
use Rattle.tr_replies.proofs.snapshots.push_packet.Goals as goal

pub returns-in-Ok : goal.returns-in-Ok
returns-in-Ok g c =
    let p = c.args.packet.now in
    let seq : c.head-seq.result.seq ≡ p.head.seq = search rules in
    let records : p.records ≡ c.in-Some.first ∷ c.next.new.self = search rules in
    let serial : c.serial-first.result ≡ c.in-Some.first.serial = search rules in
    let first : decimal c.serial-first.result ≡ serial_text (slice_get p.records 0) =
    ap decimal serial ∙ ap (λ (es : List Entry). serial_text (slice_get es 0)) (sym records) in
    let last = sym (last_told p.records c.last_serial-last.result c.last_serial-last.ensures.value) in
    let wrote : string_bytes c.write.new.self
    ≡ string_bytes c.args.text.now ++ (10 ∷ line_told c.head-seq.result.seq c.count-count.result (decimal c.serial-first.result) (decimal c.last_serial-last.result)) =
    search rules in
    wrote ∙ ap (λ (line : List ℕ). string_bytes c.args.text.now ++ (10 ∷ line))
    (line_is p c.head-seq.result.seq c.count-count.result (decimal c.serial-first.result) (decimal c.last_serial-last.result) seq
    c.count-count.ensures.value first last)
