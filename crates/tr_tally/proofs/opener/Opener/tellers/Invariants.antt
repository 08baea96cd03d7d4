use Rattle.std.proofs.Common.{◌≡◌, ◌≤◌, vec_len}
use Rattle.std.specs.Prelude.{vec_capacity}
use Rattle.tr_tally.specs.Tallies.{new_tellers, opener_state}
use Rattle.tr_tally.proofs.opener.Opener.tellers.Given as goal

abbrev pub invariant-streams : goal.invariant-streams
invariant-streams g l = (l.self ≡ opener_state l.initial.self.tally l.stream)
    × (l.tellers.items ≡ new_tellers l.initial.self.tally.table l.stream) × (vec_len l.tellers ≡ l.stream)
    × (l.streams ≤ vec_capacity l.tellers)
