use Rattle.std.proofs.Common.{length}
use Rattle.tr_packet.proofs.BodyLemmas.{Stands}
use Rattle.tr_packet.proofs.seen.judge_records.Given as goal

abbrev pub invariant-loop-rest : goal.invariant-loop-rest
invariant-loop-rest l = Stands l.fn.begin l.fn.end l.fn.body l.rest l.seen

abbrev pub decreases-loop-rest : goal.decreases-loop-rest
decreases-loop-rest l = length l.rest
