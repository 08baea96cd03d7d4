use Rattle.std.proofs.Common.{◌≡◌, ℕ, ◌+◌, ◌≤◌, ◌<◌, get_or, length, take, drop}
use Rattle.std.specs.Prelude.{sum}
use Rattle.std.specs.List.{sum_by}
use Rattle.tr_seats.proofs.settling.join_drainers.Given as goal
use Rattle.tr_accounts.specs.declared.step.StreamStep.{StreamStep}
use Rattle.tr_journal.specs.Journals as journal
use Rattle.tr_ledger.specs.Ledgers.{SeatState}
use Rattle.tr_seats.specs.Books.{consumed_books}
use Rattle.tr_seats.specs.Accounts.{IsTakenFrom}
use Rattle.tr_seats.specs.Drainers.{DrainerState, taken_at}
use Rattle.tr_seats.specs.Histories.{AreDeskWith}
use Rattle.tr_seats.specs.Settling.{taken_of}
use Rattle.tr_seats.specs.Slots.{AreJoined, SlotState, amounts_of}

abbrev pub invariant-loop-drainer : goal.invariant-loop-drainer
invariant-loop-drainer g l =
    (goal.iterator-loop-drainer g).can_next l.drainer-iterator × (goal.iterator-loop-drainer g).is_finite l.drainer-iterator × record {
      slots_same : l.slots ≡ l.initial.slots;
      left : drop (length l.yielded) l.fn.drainers.items ≡ l.drainer-iterator.rest.items;
      within : length l.yielded ≤ length l.fn.drainers.items;
      seats : AreJoined (length l.yielded + 1) (consumed_books g.N.Names.plan.books) l.seats;
      amounts : sum (amounts_of l.seats)
          ≡ sum (amounts_of l.initial.seats)
          + sum_by (λ (d : DrainerState). sum d.amounts) (take (length l.yielded) l.fn.drainers.items);
      each : (k : ℕ) (d : SeatState) → k < length g.N.Names.plan.books
          → (get_or l.seats k d).amount
          ≡ (get_or l.initial.seats k d).amount + taken_of (take (length l.yielded) l.fn.drainers.items) k;
      noted : AreDeskWith g.N.Names.plan.books (take (length l.yielded) l.fn.drainers.items) l.noted;
      operations : (i : ℕ) (d : journal.SeatState StreamStep) → i < length g.N.Names.plan.books
          → (get_or l.noted i d).own ≡ (get_or l.initial.noted i d).own;
      packets : (k i : ℕ) (d : DrainerState) (s : SlotState) → k < length l.yielded → i < length l.initial.slots
          → IsTakenFrom (taken_at (get_or l.fn.drainers.items k d) i) (get_or l.initial.slots i s).stream;
    }
