use Rattle.std.proofs.Common.{Ok, ◌≡◌, ◌≤◌, ◌*◌, ◌^◌, List, length, map}
use Rattle.std.specs.Prelude.{sum}
use Rattle.tr_shared.proofs.shared.Shared.clear_by.Given as goal
use Rattle.std.specs.Sync.Mutex.{mutex_guard_value}
use Rattle.tr_seats.specs.Operators.{with_steps}
use Rattle.tr_session_book.specs.BookSteps.{book_clear_answer}
use Rattle.tr_shared.specs.Operators.{clears_from}
use Rattle.tr_stream.specs.declared.answers.Cleared.{Cleared}

-- what was cleared so far, which fits a number of twice the length
abbrev pub invariant-loop-i : goal.invariant-loop-i
invariant-loop-i g l = record {
  allowed : book_clear_answer (mutex_guard_value l.desk).book ≡ Ok tt;
  few : l.records ≤ l.i * 2 ^ 64;
  done : (dones : List Cleared) × (length dones ≡ l.i) × (l.records ≡ sum (map (λ (done : Cleared). done.records) dones))
      × (l.operator ≡ with_steps (clears_from 0 dones) l.initial.operator);
}
