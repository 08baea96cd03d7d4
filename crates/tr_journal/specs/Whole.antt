-- What all seats of a journal have together, and what one seat has alone.
use Rattle.std.specs.Prelude.{◌≡◌, ◌≢◌, ℕ, List, Option, None, length, map, sum_by}
use Rattle.std.specs.List.{AllByRecursion, Contains}
use Rattle.tr_journal.specs.declared.rule.Line.{Line}
use Rattle.tr_journal.specs.declared.rule.Part.{Part}

-- the numbers that parts have
abbrev pub numbers_of : {E : Type 0} → List (Part E) → List ℕ
numbers_of parts = map (λ p. p.who) parts

-- each line is in a part, and in one alone
pub record AreAllOf {E : Type 0} (lines : List (Line E)) (parts : List (Part E)) : Type 0 where
  pub each : AllByRecursion (λ l. Contains (numbers_of parts) l.who) lines
  pub once : length lines ≡ sum_by (λ p. length p.own) parts

-- no other seat's holder did anything of the kind that `kind` picks
abbrev pub IsOnlyBy : {E X : Type 0} → ℕ → (E → Option X) → List (Line E) → Type 0
IsOnlyBy who kind lines = AllByRecursion (λ l. l.who ≢ who → kind l.done ≡ None) lines
