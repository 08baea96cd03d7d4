use Rattle.std.proofs.Common.{◌++◌, ◌∙◌, List, ℕ, ap, sym}
use Rattle.std.specs.String.{string_bytes}
use Rattle.tr_packet.specs.declared.head.Head.{Head}
use Rattle.tr_recover.specs.Lines.{lines_after}
use Rattle.tr_recover.specs.declared.lines.Counts.{Counts}
use Rattle.tr_recover.proofs.LineLemmas.{lines_begin, lines_end, lines_more}
use Rattle.tr_recover.proofs.lines.push_stream.Goals as goal

pub packets-init : goal.packets-init
packets-init g c =
    let packets = c.args.packets.now in
    let stream = c.head-stream.result.stream in
    ap (λ (t : List ℕ). string_bytes c.args.text.now ++ t)
    (lines_begin packets c.first-item.result stream c.in-len1-up.len_at_least c.first-item.is (ap (λ (h : Head). h.stream) c.head-stream.ensures.value)
    ∙ ap (λ (d : Counts). lines_after stream d packets) (sym c.new-counts.ensures))

pub packets-preserved : goal.packets-preserved
packets-preserved g c =
    c.packets.invariant
    ∙ lines_more c.args.packets.now c.packets.packet-index c.packet-item.result c.head-stream.result.stream c.packets.counts c.and-counts.result
    (string_bytes c.packets.text) c.as_str.result.now (string_bytes c.push_str.new.self) c.packets-test.true c.packet-item.is c.and-counts.ensures
    (c.as_str.ensures.value ∙ c.in_ok-line.ensures) c.in_ok-push_str.ensures.bytes

pub returns : goal.returns
returns g c =
    c.in_ok-push_str-2.ensures.bytes
    ∙ ap (λ (t : List ℕ). string_bytes c.packets.text ++ t) (c.as_str-2.ensures.value ∙ c.in_ok-line-2.ensures)
    ∙ sym
    (c.packets.invariant
    ∙ lines_end c.args.packets.now c.packets.packet-index c.head-stream.result.stream c.packets.counts (string_bytes c.packets.text) c.packets-test.false)
