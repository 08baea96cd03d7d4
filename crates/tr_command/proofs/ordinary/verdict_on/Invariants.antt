use Rattle.std.proofs.Common.{◌-◌, ◌≤◌, ℕ, List, drop, length, map}
use Rattle.tr_command.specs.Ordinary.{row_of_use, shape_of}
use Rattle.tr_command.specs.Progress.{ComesTo}
use Rattle.tr_command.proofs.ordinary.verdict_on.Given as goal

-- clap comes to the words that are left
abbrev pub invariant-words : goal.invariant-words
invariant-words l = (l.at ≤ length l.words)
    × ((name : List ℕ) → ComesTo (shape_of name l.arguments) l.arguments (map (λ w. w.now) l.words) (map row_of_use l.uses.items) l.places
    (map (λ w. w.now) (drop l.at l.words)))

abbrev pub decreases-words : goal.decreases-words
decreases-words l = length l.words - l.at
