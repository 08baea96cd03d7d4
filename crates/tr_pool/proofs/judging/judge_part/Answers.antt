use Rattle.std.proofs.Common.{rules, ◌≡◌, Some, subst}
use Rattle.tr_book.specs.Parts.{part_at}
use Rattle.tr_pool.specs.Judging.{Judges}
use Rattle.tr_pool.specs.Logs.{packet_records}
use Rattle.tr_pool.proofs.judging.judge_part.Goals as goal

pub returns-in-Some : goal.returns-in-Some
returns-in-Some c = λ part at.
    let found : Some c.in-Some.part.now ≡ part_at c.args.k c.args.stream.now.parts = search rules in
    let same : c.in-Some.part.now ≡ part = cc in
    subst (λ p. Judges c.args.items.now (packet_records p.packets) c.args.least c.judge_packets.result) same
    (subst (λ ps. Judges c.args.items.now (packet_records ps) c.args.least c.judge_packets.result) c.packets.ensures c.judge_packets.ensures)
