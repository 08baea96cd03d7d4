-- What has a number and a name, in order.
use Rattle.std.specs.Prelude.{ℕ, List}
use Rattle.std.specs.Cmp.Lexicographic.{slice_cmp}
use Rattle.std.specs.Ordering.{nat_cmp, ordering_then}
use Rattle.std.specs.declared.cmp.Ordering.{Ordering}

-- an archive by the number that ends its folder's name, or a stream by its number and its channel's name
pub record Numbered : Type 0 where
  pub number : ℕ
  pub name : List ℕ

abbrev pub name_cmp : List ℕ → List ℕ → Ordering
name_cmp = slice_cmp nat_cmp

-- by number, and by name where numbers are the same
abbrev pub number_cmp : Numbered → Numbered → Ordering
number_cmp a b = ordering_then (nat_cmp a.number b.number) (name_cmp a.name b.name)
