-- A lane of a row: its bars, from the left, of which no two share a column.
use Rattle.std.specs.Prelude.{ℕ, ◌+◌, nat_le, List, [], ◌∷◌, ◌++◌, Option, Some, None, if◌then◌else◌}
use Rattle.tr_chunk.specs.Audit.{capped_count}
use Rattle.tr_picture.specs.Bars.{beyond, merged}
use Rattle.tr_picture.specs.declared.bars.Bar.{Bar}

-- the bars that are done, the one that may still become more, and how many were added
pub record Lane : Type 0 where
  pub done : List Bar
  pub pending : Option Bar
  pub added : ℕ

abbrev pub lane : List Bar → Option Bar → ℕ → Lane
lane done pending added = record { done = done; pending = pending; added = added }

abbrev pub no_lane : Lane
no_lane = lane [] None 0

-- a bar after a pending one: if none of its columns is beyond that, they are one
abbrev pub add_after : List Bar → Option Bar → ℕ → Bar → Lane
add_after done None added b = lane done (Some b) added
add_after done (Some a) added b =
    if nat_le b.to a.to then lane done (Some (merged a b)) added else lane (done ++ a ∷ []) (Some (beyond a b)) added

abbrev pub add : Lane → Bar → Lane
add l b = add_after l.done l.pending (capped_count (l.added + 1)) b

abbrev pub one_more : List Bar → Option Bar → List Bar
one_more done None = done
one_more done (Some b) = done ++ b ∷ []

abbrev pub bars_of : Lane → List Bar
bars_of l = one_more l.done l.pending
