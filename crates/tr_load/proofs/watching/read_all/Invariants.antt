use Rattle.std.proofs.Common.{◌≡◌, ◌≤◌, ◌*◌, length, take}
use Rattle.std.specs.List.{sum}
use Rattle.tr_load.proofs.watching.read_all.Given as goal

-- so many streams were read, each at less than 2^64, and each answer is kept
abbrev pub invariant-streams : goal.invariant-streams
invariant-streams l =
    (l.watcher.table ≡ l.fn.watcher.table) × (length l.watcher.answers ≡ length l.fn.watcher.answers)
    × (l.i-end ≡ length l.fn.watcher.answers) × (l.offered ≤ l.i * 18446744073709551615)
    × (l.offered ≡ sum (take l.i l.watcher.answers))
