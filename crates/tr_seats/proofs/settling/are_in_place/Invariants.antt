use Rattle.std.proofs.Common.{◌≡◌, ℕ, ◌<◌, get_or}
use Rattle.tr_seats.proofs.settling.are_in_place.Given as goal
use Rattle.tr_seats.specs.Slots.{SlotState}

abbrev pub invariant-loop-i : goal.invariant-loop-i
invariant-loop-i g l = (k : ℕ) (d : SlotState) → k < l.i → (get_or l.slots k d).number ≡ k
