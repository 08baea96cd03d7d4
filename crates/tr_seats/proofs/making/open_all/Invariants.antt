use Rattle.std.proofs.Common.{◌≡◌, ◌≤◌, length, drop, take}
use Rattle.std.specs.Iterator.Adapters.{zip_first, zip_second}
use Rattle.tr_seats.proofs.making.open_all.Given as goal
use Rattle.tr_seats.specs.Plans.{streams_in, tellers_in}

-- the books of the first streams are open, each beside its teller
abbrev pub invariant-streams : goal.invariant-streams
invariant-streams g l =
    (drop (length l.planned.items) l.fn.streams.items ≡ (zip_first l.stream-iterator).rest.items)
    × (drop (length l.planned.items) l.fn.tellers.items ≡ (zip_second l.stream-iterator).rest.items)
    × (length l.planned.items ≤ length l.fn.streams.items)
    × (length l.planned.items ≤ length l.fn.tellers.items)
    × (streams_in l.planned.items ≡ take (length l.planned.items) l.fn.streams.items)
    × (tellers_in l.planned.items ≡ take (length l.planned.items) l.fn.tellers.items)
