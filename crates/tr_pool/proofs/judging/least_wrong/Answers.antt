use Rattle.std.proofs.Common.{None}
use Rattle.tr_pool.specs.Logs.{parts_records}
use Rattle.tr_stream.specs.Calls.{ring_records}
use Rattle.tr_stream.specs.Fates.{all_parts}
use Rattle.tr_pool.proofs.JudgeLemmas.{judges_then, judges_all}
use Rattle.tr_pool.proofs.judging.least_wrong.Goals as goal

pub returns : goal.returns
returns c =
    judges_all c.args.items.now _ c.judge_ring.result
    (judges_then c.args.items.now (parts_records (all_parts c.args.stream.now.parts)) (ring_records c.args.stream.now.ring) None c.judge_parts.result c.judge_ring.result
    c.judge_parts.ensures c.judge_ring.ensures)
