use Rattle.std.proofs.Common.{◌≡◌, ◌≤◌, drop, length, take, vec_len}
use Rattle.std.specs.Prelude.{vec_capacity}
use Rattle.std.specs.List.{AllByRecursion}
use Rattle.tr_seats.proofs.settling.streams_out.Given as goal
use Rattle.tr_session.specs.Sizes.{HoldsItsParts}
use Rattle.tr_seats.specs.Settling.{streams_of}

abbrev pub invariant-loop-slot : goal.invariant-loop-slot
invariant-loop-slot g l =
    (goal.iterator-loop-slot g).can_next l.slot-iterator × (goal.iterator-loop-slot g).is_finite l.slot-iterator × record {
      left : drop (length l.yielded) l.fn.slots.items ≡ l.slot-iterator.rest.items;
      within : length l.yielded ≤ length l.fn.slots.items;
      held : AllByRecursion HoldsItsParts l.room.items;
      out : l.room.items ≡ streams_of (take (length l.yielded) l.fn.slots.items);
      len : vec_len l.room ≡ length l.yielded;
      space : length l.fn.slots.items ≤ vec_capacity l.room;
    }
