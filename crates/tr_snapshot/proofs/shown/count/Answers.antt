use Rattle.std.proofs.Common.{◌∙◌, sym, ap}
use Rattle.std.proofs.lemmas.List.Concat.{length-flat_map}
use Rattle.tr_packet.specs.Packets.{Contents}
use Rattle.tr_book.specs.Parts.{records_of}
use Rattle.tr_snapshot.proofs.shown.count.Goals as goal

pub returns-clause-shown : goal.returns-clause-shown
returns-clause-shown g c =
    c.records_in.ensures ∙ ap records_of c.packets.ensures.value ∙ sym (length-flat_map (λ (p : Contents). p.records) c.args.snap.now.packets)
