use Rattle.std.proofs.Common.{ℕ, Option}
use Rattle.tr_pool.specs.Judging.{Judges}
use Rattle.tr_pool.proofs.judging.judge_records.Given as goal

-- what is judged of the records that are left is judged of all
abbrev pub invariant-records : goal.invariant-records
invariant-records l = (last : Option ℕ) → Judges l.items l.record-iterator l.least last → Judges l.items l.fn.records l.fn.least last
