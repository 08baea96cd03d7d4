use Rattle.std.proofs.Common.{◌≡◌, ◌-◌, ◌++◌, ◌<◌, ◌≤◌, ℕ, Bool, List, drop, length}
use Rattle.tr_survey.specs.Listing.{key_of}
use Rattle.tr_survey.specs.Steps.{HasGone}
use Rattle.tr_survey.specs.Streams.{place_of}
use Rattle.tr_survey.proofs.files.tell_held.Given as goal

abbrev pub invariant-packets : goal.invariant-packets
invariant-packets g l = record {
  within : l.at ≤ length l.held.items;
  failures : g.K.ByteSink.failures l.sink ≡ g.K.ByteSink.failures l.initial.sink;
  gone : (n : ℕ) (rest : List ℕ) (breaks : Bool) → length (l.held.items ++ rest) < n
      → HasGone (place_of l.trace l.stream (key_of l.archive)) l.initial.tally l.initial.offset n l.held.items rest breaks
      (g.K.ByteSink.taken l.initial.sink) (g.K.ByteSink.taken l.sink) l.tally l.offset (drop l.at l.held.items);
}

abbrev pub decreases-packets : goal.decreases-packets
decreases-packets g l = length l.held.items - l.at
