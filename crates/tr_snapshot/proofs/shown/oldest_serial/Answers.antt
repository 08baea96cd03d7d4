use Rattle.std.proofs.Common.{rules, ◌≡◌, ◌∙◌, sym, Some, None}
use Rattle.std.specs.Option.{option_map}
use Rattle.std.specs.Prelude.{slice_get}
use Rattle.tr_record.specs.Records.{Entry}
use Rattle.tr_snapshot.proofs.ShownLemmas.{oldest_none, oldest_some}
use Rattle.tr_snapshot.proofs.shown.oldest_serial.Goals as goal

pub returns-in_err-packet : goal.returns-in_err-packet
returns-in_err-packet g c =
    let none : slice_get c.args.snap.now.packets 0 ≡ None = search rules in
    let told : c.from_residual.result ≡ None = search rules in
    told ∙ sym (oldest_none c.args.snap.now none)

pub returns : goal.returns
returns g c =
    let p = c.in_ok-packet.packet in
    let first : slice_get c.args.snap.now.packets 0 ≡ Some p = search rules in
    let told : c.map.result ≡ option_map (λ (e : Entry). e.serial) (slice_get p.records 0) = search rules in
    told ∙ sym (oldest_some c.args.snap.now p first c.records.ensures.packet)
