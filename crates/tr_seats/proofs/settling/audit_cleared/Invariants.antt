use Rattle.std.proofs.Common.{◌≡◌, ℕ, ◌<◌, get_or, length}
use Rattle.tr_ledger.specs.Ledgers.{SeatState}
use Rattle.tr_seats.proofs.settling.audit_cleared.Given as goal
use Rattle.tr_seats.specs.Slots.{SlotState}
use Rattle.tr_seats.specs.Sums.{totals_in}

abbrev pub invariant-loop-i : goal.invariant-loop-i
invariant-loop-i g l = record {
  slots_same : l.slots ≡ l.initial.slots;
  seats_same : l.seats ≡ l.initial.seats;
  wide : length l.seats ≡ length l.slots;
  whole : (k : ℕ) (d : SeatState) (s : SlotState) → k < l.i → (get_or l.initial.seats k d).mark ≡ 1
      → (get_or l.initial.seats k d).amount ≡ (totals_in (get_or l.initial.slots k s).stream).cleared;
}
