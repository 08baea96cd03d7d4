use Rattle.std.proofs.Common.{◌≡◌, ◌++◌, ◌+◌, take, vec_capacity, vec_len}
use Rattle.tr_book.specs.Closed.{gone_parts, gone_starts}
use Rattle.tr_book.proofs.closed.note_gone.Given as goal

abbrev pub invariant-loop-at : goal.invariant-loop-at
invariant-loop-at g l =
    (gone_parts l.gone.items ≡ gone_parts l.initial.gone.items ++ take l.at l.parts)
    × (gone_starts l.gone.items ≡ gone_starts l.initial.gone.items ++ take l.at l.starts)
    × (vec_len l.gone ≡ vec_len l.initial.gone + l.at)
    × (vec_capacity l.gone ≡ vec_capacity l.initial.gone)
