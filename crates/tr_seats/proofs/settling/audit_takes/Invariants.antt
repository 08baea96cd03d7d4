use Rattle.std.proofs.Common.{◌≡◌, ℕ, ◌<◌, get_or}
use Rattle.tr_seats.proofs.settling.audit_takes.Given as goal
use Rattle.tr_seats.specs.Accounts.{IsTakenFrom}
use Rattle.tr_seats.specs.Drainers.{taken_at}
use Rattle.tr_seats.specs.Slots.{SlotState}

abbrev pub invariant-loop-i : goal.invariant-loop-i
invariant-loop-i g l = record {
  slots_same : l.slots ≡ l.initial.slots;
  drainer_same : l.drainer ≡ l.initial.drainer;
  taken : (k : ℕ) (s : SlotState) → k < l.i → IsTakenFrom (taken_at l.initial.drainer k) (get_or l.initial.slots k s).stream;
}
