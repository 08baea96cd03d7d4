-- How clap finds the arguments of a command that is built.
use Rattle.std.proofs.Common.{◌≡◌, ◌∙◌, ◌+◌, ◌<◌, ◌≤◌, ◌==◌, ◌||◌, ℕ, suc, Bool, true, false, not, refl, sym, ap, cond, List, [], ◌∷◌, ◌++◌, Option, Some, arith, min, map, subst, true≢false, length}
use Rattle.std.proofs.Math.Nat.{min-eq_left}
use Rattle.std.specs.Prelude.{find}
use Rattle.std.specs.Borrow.{Bor}
use Rattle.std.specs.List.{list_all, list_any}
use Rattle.std.specs.Str.{bytes_eq}
use Rattle.std.proofs.lemmas.Bool.Decides.{nat_tests}
use Rattle.tr_terms.proofs.BoolLemmas.{both}
use Rattle.clap.specs.Lexer.{usize_max}
use Rattle.clap.specs.Walk.{Rule, Text, arg_by_id, arg_by_index, arg_by_long}
use Rattle.clap.specs.Simple.{filled, filled_from}
use Rattle.tr_command.specs.CommandLine.{rule}
use Rattle.tr_command.specs.declared.arguments.Argument.{Argument}
use Rattle.tr_command.specs.declared.arguments.Argument.TheVariants.{Placed, Named, Flag}
use Rattle.tr_command.specs.Ordinary.{has_distinct_names, is_called, is_place}
use Rattle.tr_command.proofs.StepLemmas.{built_place, same_text}

neither : (a b : Bool) → (a || b) ≡ false → (a ≡ false) × (b ≡ false)
neither true b e = cc
neither false b e = (refl, e)

is_not : (b : Bool) → not b ≡ true → b ≡ false
is_not true e = cc
is_not false e = refl

-- the next place is found by its number
pub by_place : (i : ℕ) (before : List Argument) (name : Bor Text) (after : List Rule) → list_all is_place before ≡ true → i + length before < usize_max
    → arg_by_index (filled_from i (map rule before ++ rule (Placed name) ∷ after)) (i + length before) ≡ Some (built_place (i + length before) name.now)
by_place i [] name after are fits =
    let here : (i == i + 0) ≡ true = grind (arith, nat_tests) in
    let same : i ≡ i + 0 = omega arith in
    rw here (ap (λ k. Some (built_place k name.now)) same)
by_place i (Placed n ∷ before) name after are fits =
    let other : (i == i + suc (length before)) ≡ false = grind (arith, nat_tests) in
    let small : i + 1 ≤ usize_max = omega arith in
    let step : min (i + 1) usize_max ≡ i + 1 = min-eq_left small in
    let room : i + 1 + length before < usize_max = omega arith in
    let same : i + 1 + length before ≡ i + suc (length before) = omega arith in
    let rest = by_place (i + 1) before name after are room in
    rw (other, step)
    (subst (λ k. arg_by_index (filled_from (i + 1) (map rule before ++ rule (Placed name) ∷ after)) k ≡ Some (built_place k name.now)) same rest)
by_place i (Named n ∷ before) name after are fits = absurd (true≢false (sym are))
by_place i (Flag n ∷ before) name after are fits = absurd (true≢false (sym are))

called-next : (b : Bool) (n a : Argument) (there : Option Argument) (rest : Option Rule) → cond b (Some n) there ≡ Some a
    → (there ≡ Some a → rest ≡ Some (filled (rule a))) → cond (b || false) (Some (filled (rule n))) rest ≡ Some (filled (rule a))
called-next true n a there rest is later = let same : n ≡ a = cc in ap (λ x. Some (filled (rule x))) same
called-next false n a there rest is later = later is

-- what is called by a name is found by it
pub by_long : (i : ℕ) (arguments : List Argument) (name : Text) (after : List Rule) (a : Argument) → find (is_called name) arguments ≡ Some a
    → arg_by_long (filled_from i (map rule arguments ++ after)) name ≡ Some (filled (rule a))
by_long i [] name after a found = cc
by_long i (Placed n ∷ arguments) name after a found = by_long (min (i + 1) usize_max) arguments name after a found
by_long i (Named n ∷ arguments) name after a found =
    called-next (bytes_eq n.now name) (Named n) a (find (is_called name) arguments) (arg_by_long (filled_from i (map rule arguments ++ after)) name) found
    (by_long i arguments name after a)
by_long i (Flag n ∷ arguments) name after a found =
    called-next (bytes_eq n.now name) (Flag n) a (find (is_called name) arguments) (arg_by_long (filled_from i (map rule arguments ++ after)) name) found
    (by_long i arguments name after a)

-- what is found passes no test that all fail
fails-next : (b : Bool) (q : Rule → Bool) (r a : Rule) (there : Option Rule) → cond b (Some r) there ≡ Some a → q r ≡ false
    → (there ≡ Some a → q a ≡ false) → q a ≡ false
fails-next true q r a there is here later = let same : r ≡ a = cc in ap q (sym same) ∙ here
fails-next false q r a there is here later = later is

found-fails : (p q : Rule → Bool) (rules : List Rule) (a : Rule) → find p rules ≡ Some a → list_any q rules ≡ false → q a ≡ false
found-fails p q [] a found none = cc
found-fails p q (r ∷ rules) a found none =
    let parts = neither (q r) (list_any q rules) none in
    fails-next (p r) q r a (find p rules) found parts.0 (λ later. found-fails p q rules a later parts.1)

-- what is found by another test is found by its name
named-next : (b : Bool) (r a : Rule) (there named : Option Rule) → cond b (Some r) there ≡ Some a
    → (there ≡ Some a → (bytes_eq r.id a.id ≡ false) × (named ≡ Some a)) → cond (bytes_eq r.id a.id) (Some r) named ≡ Some a
named-next true r a there named is later =
    let same : r ≡ a = cc in
    ap (λ (x : Rule). cond (bytes_eq x.id a.id) (Some x) named) same ∙ ap (λ b. cond b (Some a) named) (same_text a.id)
named-next false r a there named is later = let h = later is in rw h.0 h.1

pub by_name : (p : Rule → Bool) (rules : List Rule) (a : Rule) → find p rules ≡ Some a → has_distinct_names rules ≡ true → arg_by_id rules a.id ≡ Some a
by_name p [] a found distinct = cc
by_name p (r ∷ rules) a found distinct =
    let parts = both _ _ distinct in
    named-next (p r) r a (find p rules) (arg_by_id rules a.id) found
    (λ later. (found-fails p (λ q. bytes_eq r.id q.id) rules a later (is_not _ parts.0), by_name p rules a later parts.1))
