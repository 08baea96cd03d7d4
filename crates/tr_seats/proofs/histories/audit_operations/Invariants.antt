use Rattle.std.proofs.Common.{◌≡◌, ℕ, ◌<◌, get_or}
use Rattle.tr_accounts.specs.declared.step.StreamStep.{StreamStep}
use Rattle.tr_journal.specs.Journals.{SeatState}
use Rattle.tr_seats.proofs.histories.audit_operations.Given as goal
use Rattle.tr_seats.specs.Accounts.{IsOperatedBy}
use Rattle.tr_seats.specs.Slots.{SlotState}

abbrev pub invariant-loop-i : goal.invariant-loop-i
invariant-loop-i g l = record {
  slots_same : l.slots ≡ l.initial.slots;
  seats_same : l.seats ≡ l.initial.seats;
  operated : (k : ℕ) (d : SeatState StreamStep) (s : SlotState) → k < l.i
      → IsOperatedBy (get_or l.initial.seats k d).own (get_or l.initial.slots k s).stream;
}
