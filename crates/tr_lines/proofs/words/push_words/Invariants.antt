use Rattle.std.proofs.Common.{map}
use Rattle.tr_lines.proofs.WordLemmas.{Cut}
use Rattle.tr_lines.proofs.words.push_words.Given as goal

-- the words before the part that begins at `start` are added
abbrev pub invariant-bytes : goal.invariant-bytes
invariant-bytes l = Cut (map (λ w. w.now) l.fn.words.items) (map (λ w. w.now) l.words.items) l.bytes l.start l.at
