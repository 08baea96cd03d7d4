use Rattle.std.proofs.Common.{◌≡◌, ℕ, ◌≤◌, ◌<◌, ◌*◌, ◌^◌, get_or, length, take}
use Rattle.tr_seats.proofs.settling.sums.Given as goal
use Rattle.tr_seats.specs.Settling.{AddUp, WereConsumed, streams_of}
use Rattle.tr_seats.specs.Slots.{SlotState}
use Rattle.tr_seats.specs.Sums.{totals_of}
use Rattle.tr_terms.specs.declared.session_mode.SessionMode.TheVariants.{Snapshot}

abbrev pub invariant-loop-slot : goal.invariant-loop-slot
invariant-loop-slot g l = record {
  so_far : l.totals ≡ totals_of (streams_of (take l.slot-index l.slots));
  places : AddUp l.totals (streams_of (take l.slot-index l.slots));
  kept : WereConsumed l.totals (streams_of (take l.slot-index l.slots));
  none : ((k : ℕ) (s : SlotState) → k < length l.slots → (get_or l.slots k s).stream.config.session ≡ Snapshot)
      → (l.totals.consumed ≡ 0) × (l.totals.cleared ≡ 0);
  offered : l.totals.offered ≤ l.slot-index * 2 ^ 64;
  discarded : l.totals.discarded ≤ l.slot-index * 2 ^ 64;
  overwritten : l.totals.overwritten ≤ l.slot-index * 2 ^ 64;
  overwritten_packets : l.totals.overwritten_packets ≤ l.slot-index * 2 ^ 64;
  consumed : l.totals.consumed ≤ l.slot-index * 2 ^ 64;
  cuts : l.totals.cuts ≤ l.slot-index * 2 ^ 64;
  cleared : l.totals.cleared ≤ l.slot-index * 2 ^ 64;
}
