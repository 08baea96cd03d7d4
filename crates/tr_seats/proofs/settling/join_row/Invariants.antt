use Rattle.std.proofs.Common.{◌≡◌, ℕ, ◌+◌, ◌≤◌, ◌<◌, length, map, take, drop, get_or}
use Rattle.std.specs.Prelude.{sum}
use Rattle.tr_ledger.specs.Ledgers.{SeatState}
use Rattle.tr_seats.proofs.Joins.{raised_until}
use Rattle.tr_seats.proofs.settling.join_row.Given as goal
use Rattle.tr_seats.specs.Books.{consumed_books}
use Rattle.tr_seats.specs.Slots.{amounts_of}

abbrev pub invariant-loop-seat : goal.invariant-loop-seat
invariant-loop-seat g l =
    (goal.iterator-loop-seat g).can_next l.seat-iterator × (goal.iterator-loop-seat g).is_finite l.seat-iterator × record {
      slots_same : l.slots ≡ l.initial.slots;
      left : drop l.i l.fn.theirs.items ≡ l.seat-iterator.rest.items;
      within : l.i ≤ length l.fn.theirs.items;
      slots_left : l.i + l.seat-iterator.rest.len ≡ length l.slots;
      seats_left : l.i + l.seat-iterator.rest.len ≡ length l.seats;
      tables : map (λ (s : SeatState). s.table) l.seats ≡ consumed_books g.N.Names.plan.books;
      marks : (k : ℕ) (d : SeatState) → k < length g.N.Names.plan.books
          → (get_or l.seats k d).mark ≡ raised_until (get_or l.initial.seats k d).mark 1 l.i k;
      each : (k : ℕ) (d e : SeatState) → k < length g.N.Names.plan.books
          → (get_or l.seats k d).amount
          ≡ raised_until (get_or l.initial.seats k d).amount (get_or l.fn.theirs.items k e).amount l.i k;
      amounts : sum (amounts_of l.seats) ≡ sum (amounts_of l.initial.seats) + sum (amounts_of (take l.i l.fn.theirs.items));
    }
