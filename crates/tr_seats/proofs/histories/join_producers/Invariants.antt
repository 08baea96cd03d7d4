use Rattle.std.proofs.Common.{◌≡◌, ◌≢◌, ℕ, ◌≤◌, ◌<◌, length, drop, get_or}
use Rattle.tr_accounts.specs.declared.step.StreamStep.{StreamStep}
use Rattle.tr_journal.specs.Journals.{SeatState}
use Rattle.tr_seats.proofs.histories.join_producers.Given as goal
use Rattle.tr_seats.specs.Histories.{IsHistoryOf, takes_joined}
use Rattle.tr_seats.specs.Slots.{ProducerState, SlotState}

abbrev pub invariant-loop-producer : goal.invariant-loop-producer
invariant-loop-producer g l =
    (goal.iterator-loop-producer g).can_next l.producer-iterator × (goal.iterator-loop-producer g).is_finite l.producer-iterator × record {
      slots_same : l.slots ≡ l.initial.slots;
      left : drop (length l.yielded) l.fn.producers.items ≡ l.producer-iterator.rest.items;
      within : length l.yielded ≤ length l.fn.producers.items;
      many : length l.desk ≡ length l.initial.desk;
      apart : (i : ℕ) (d : SeatState StreamStep)
          → ((j : ℕ) (p : ProducerState) → j < length l.yielded → (get_or l.fn.producers.items j p).number ≢ i)
          → get_or l.desk i d ≡ get_or l.initial.desk i d;
      histories : (k : ℕ) (p : ProducerState) (d : SeatState StreamStep) (s : SlotState) → k < length l.yielded
          → IsHistoryOf (get_or l.fn.producers.items k p).steps
          (takes_joined (get_or l.initial.desk (get_or l.fn.producers.items k p).number d))
          (get_or l.initial.desk (get_or l.fn.producers.items k p).number d).own
          (get_or l.initial.slots (get_or l.fn.producers.items k p).number s).stream;
    }
