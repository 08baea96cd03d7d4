use Rattle.std.proofs.Common.{◌≡◌, ℕ, ◌<◌, length, get_or}
use Rattle.tr_seats.proofs.settling.audit_producers.Given as goal
use Rattle.tr_seats.specs.Accounts.{IsAccountOf}
use Rattle.tr_seats.specs.Slots.{IsOwn, ProducerState, SlotState}
use Rattle.tr_seats.specs.Sums.{totals_in}

abbrev pub invariant-loop-k : goal.invariant-loop-k
invariant-loop-k g l = record {
  slots_same : l.slots ≡ l.initial.slots;
  producers_same : l.producers ≡ l.initial.producers;
  there : (j : ℕ) (p : ProducerState) → j < l.k → (get_or l.initial.producers j p).number < length g.N.Names.plan.books;
  own : (j : ℕ) (p : ProducerState) (s : SlotState) → j < l.k
      → IsOwn (get_or l.initial.producers j p) (totals_in (get_or l.initial.slots (get_or l.initial.producers j p).number s).stream);
  accounts : (j : ℕ) (p : ProducerState) (s : SlotState) → j < l.k
      → IsAccountOf (get_or l.initial.producers j p).steps (get_or l.initial.slots (get_or l.initial.producers j p).number s).stream;
}
