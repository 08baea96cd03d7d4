use Rattle.std.proofs.Common.{◌≡◌, ◌+◌, ◌-◌, ◌<◌, ◌≤◌, ℕ, vec_len}
use Rattle.std.specs.Prelude.{vec_capacity, slice_index_or}
use Rattle.tr_threads.proofs.threads.fn.set_to_work.scope.Given as goal

-- the seats that are left are the first ones, as they were; the threads have the others, the last first
abbrev pub invariant-starting : goal.invariant-starting
invariant-starting g l =
    (vec_len l.seats + vec_len l.handles ≡ vec_len l.initial.seats)
    × (vec_len l.initial.seats ≤ vec_capacity l.seats)
    × (vec_len l.initial.seats ≤ vec_capacity l.handles)
    × ((i : ℕ) (s : _) → i < vec_len l.seats → slice_index_or l.seats.items i s ≡ slice_index_or l.initial.seats.items i s)
    × ((j : ℕ) (h : _) (s : _) → j < vec_len l.handles
    → let p = (slice_index_or l.handles.items j h).promise in
    (p.work.value ≡ l.work.now)
    × (p.worker ≡ vec_len l.initial.seats - 1 - j)
    × (p.seat.value ≡ slice_index_or l.initial.seats.items (vec_len l.initial.seats - 1 - j) s))

abbrev pub decreases-starting : goal.decreases-starting
decreases-starting g l = vec_len l.seats
