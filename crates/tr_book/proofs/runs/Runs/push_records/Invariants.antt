use Rattle.std.proofs.Common.{◌≡◌, ◌+◌, ◌++◌, ◌≤◌, length}
use Rattle.tr_book.specs.Runs.{runs_of, runs_on}
use Rattle.tr_book.proofs.runs.Runs.push_records.Given as goal

-- what is done, the open run and the records that are left make all the runs
abbrev pub invariant-loop-record : goal.invariant-loop-record
invariant-loop-record g l =
    (l.self-inside.list.items ++ runs_on l.fn.seq l.open.first l.open.count l.record-iterator ≡ l.fn.self ++ runs_of l.fn.seq l.fn.records)
    × (l.open.seq ≡ l.fn.seq) × (l.open.count + length l.record-iterator ≤ length l.fn.records)
