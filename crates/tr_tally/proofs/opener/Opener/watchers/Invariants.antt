use Rattle.std.proofs.Common.{◌≡◌, ◌≤◌, vec_len}
use Rattle.std.specs.Prelude.{vec_capacity}
use Rattle.tr_tally.specs.Tallies.{new_watchers}
use Rattle.tr_tally.proofs.opener.Opener.watchers.Given as goal

abbrev pub invariant-watchers : goal.invariant-watchers
invariant-watchers g l = (l.self ≡ l.initial.self)
    × (l.made.items ≡ new_watchers l.initial.self.tally.table l.initial.self.tally.streams l.counter)
    × (vec_len l.made ≡ l.counter) × (l.watchers ≤ vec_capacity l.made)
