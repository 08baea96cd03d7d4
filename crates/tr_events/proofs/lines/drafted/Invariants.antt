use Rattle.std.proofs.Common.{◌≡◌, ◌+◌, drop, map}
use Rattle.tr_events.specs.Events.{nothing}
use Rattle.tr_events.specs.Lines.{after_lines}
use Rattle.tr_events.proofs.lines.drafted.Given as goal

abbrev pub invariant-loop-at : goal.invariant-loop-at
invariant-loop-at l =
    after_lines (l.at + 1) l.draft (map (λ s. s.now) (drop l.at l.lines)) ≡ after_lines 1 nothing (map (λ s. s.now) l.lines)
