use Rattle.std.proofs.Common.{◌≡◌, ◌++◌, drop, map}
use Rattle.std.specs.Option.{option_map}
use Rattle.tr_events.specs.Types.{labels_among}
use Rattle.tr_events.proofs.types.labels_among.Given as goal

abbrev pub invariant-loop-word : goal.invariant-loop-word
invariant-loop-word l =
    option_map (λ ls. l.labels.items ++ ls) (labels_among l.number (map (λ w. w.now) (drop l.word-index l.words)))
    ≡ labels_among l.number (map (λ w. w.now) l.words)
