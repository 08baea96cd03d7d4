use Rattle.std.proofs.Common.{◌-◌, ◌++◌, ◌<◌, ◌≤◌, ℕ, Bool, List, drop, length}
use Rattle.tr_picture.specs.Steps.{HasGone}
use Rattle.tr_survey.specs.Listing.{key_of}
use Rattle.tr_survey.specs.Streams.{place}
use Rattle.tr_picture.proofs.files.take_held.Given as goal

abbrev pub invariant-packets : goal.invariant-packets
invariant-packets l = record {
  within : l.at ≤ length l.held.items;
  gone : (n : ℕ) (rest : List ℕ) (breaks : Bool) → length (l.held.items ++ rest) < n
      → HasGone l.rule.frame.now (place l.rule.uuid.now l.rule.stream (key_of l.rule.archive.now)) l.initial.row n l.held.items rest breaks
      l.row (drop l.at l.held.items);
}

abbrev pub decreases-packets : goal.decreases-packets
decreases-packets l = length l.held.items - l.at
