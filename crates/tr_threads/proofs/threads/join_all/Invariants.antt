use Rattle.std.proofs.Common.{◌≡◌, ◌+◌, ◌-◌, ◌<◌, ◌≤◌, ℕ, true, vec_len}
use Rattle.std.specs.Prelude.{vec_capacity, slice_index_or}
use Rattle.tr_threads.specs.Pools.{IsKeptOr}
use Rattle.tr_threads.proofs.threads.join_all.Given as goal

-- the threads that are left are the first ones; the seats of the others come after those that were there
abbrev pub invariant-joining : goal.invariant-joining
invariant-joining g l =
    (vec_len l.seats + vec_len l.handles ≡ vec_len l.fn.seats + vec_len l.fn.handles)
    × (vec_len l.seats + vec_len l.handles ≤ vec_capacity l.seats)
    × ((j : ℕ) (h : _) → j < vec_len l.handles → slice_index_or l.handles.items j h ≡ slice_index_or l.fn.handles.items j h)
    × ((i : ℕ) (s : _) → i < vec_len l.fn.seats → slice_index_or l.seats.items i s ≡ slice_index_or l.fn.seats.items i s)
    × ((j : ℕ) (h : _) (s : _) → vec_len l.handles ≤ j → j < vec_len l.fn.handles
    → let p = (slice_index_or l.fn.handles.items j h).promise in
    let after = slice_index_or l.seats.items (vec_len l.fn.seats + (vec_len l.fn.handles - 1 - j)) s in
    (l.all ≡ true → g.W.Work.did p.work.value p.worker p.seat.value after)
    × IsKeptOr (g.W.Work.did p.work.value p.worker) p.seat.value after)
    × (vec_len l.handles ≤ vec_len l.fn.handles)

abbrev pub decreases-joining : goal.decreases-joining
decreases-joining g l = vec_len l.handles
