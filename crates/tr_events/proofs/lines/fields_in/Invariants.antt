use Rattle.std.proofs.Common.{◌≡◌, drop, map}
use Rattle.tr_events.specs.Lines.{fields_in}
use Rattle.tr_events.proofs.ListLemmas.{after}
use Rattle.tr_events.proofs.lines.fields_in.Given as goal

abbrev pub invariant-loop-word : goal.invariant-loop-word
invariant-loop-word l =
    after l.fields.items (fields_in (map (λ w. w.now) (drop l.word-index l.words))) ≡ fields_in (map (λ w. w.now) l.words)
