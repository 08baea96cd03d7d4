use Rattle.std.proofs.Common.{take, None}
use Rattle.tr_pool.specs.Judging.{Judges}
use Rattle.tr_pool.specs.Logs.{parts_records}
use Rattle.tr_pool.proofs.judging.judge_parts.Given as goal

abbrev pub invariant-parts : goal.invariant-parts
invariant-parts l = Judges l.items (parts_records (take l.k l.stream.parts.closed)) None l.least
