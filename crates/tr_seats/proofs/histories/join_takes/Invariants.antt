use Rattle.std.proofs.Common.{◌≡◌, ℕ, ◌+◌, ◌≤◌, ◌<◌, length, drop, get_or}
use Rattle.tr_accounts.specs.declared.step.StreamStep.{StreamStep}
use Rattle.tr_journal.specs.Journals.{SeatState, seat_with}
use Rattle.tr_seats.proofs.histories.join_takes.Given as goal

abbrev pub invariant-loop-seat : goal.invariant-loop-seat
invariant-loop-seat g l =
    (goal.iterator-loop-seat g).can_next l.seat-iterator × (goal.iterator-loop-seat g).is_finite l.seat-iterator × record {
      slots_same : l.slots ≡ l.initial.slots;
      left : drop l.i l.fn.theirs.items ≡ l.seat-iterator.rest.items;
      within : l.i ≤ length l.fn.theirs.items;
      slots_left : l.i + l.seat-iterator.rest.len ≡ length l.slots;
      desk_left : l.i + l.seat-iterator.rest.len ≡ length l.desk;
      joined : (k : ℕ) (d e : SeatState StreamStep) → k < l.i
          → get_or l.desk k d ≡ seat_with (get_or l.fn.theirs.items k e) (get_or l.initial.desk k d);
      apart : (k : ℕ) (d : SeatState StreamStep) → l.i ≤ k → get_or l.desk k d ≡ get_or l.initial.desk k d;
    }
