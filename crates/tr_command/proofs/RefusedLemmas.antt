-- Clap refuses a line with a word more than its places, or a place that is left.
use Rattle.std.proofs.Common.{◌≡◌, ◌∙◌, ◌+◌, ◌<◌, ◌≤◌, ◌==◌, ◌&&◌, ◌||◌, ℕ, suc, Bool, true, false, not, refl, sym, ap, ap₂, cond, codes, fold, List, [], ◌∷◌, ◌++◌, Option, Some, None, arith, drop, get_or, length, length-append, map, min, subst, true≢false}
use Rattle.std.proofs.Math.Nat.{min-eq_left}
use Rattle.std.specs.Prelude.{find}
use Rattle.std.specs.Borrow.{Bor}
use Rattle.std.specs.List.{list_all, list_any}
use Rattle.std.specs.Option.{option_map_or}
use Rattle.std.specs.Str.{bytes_eq}
use Rattle.std.proofs.lemmas.List.{drop_more}
use Rattle.std.proofs.lemmas.Bool.Decides.{nat_tests}
use Rattle.clap.specs.Lexer.{usize_max}
use Rattle.clap.specs.Kinds.{Kinds, check_kinds, or_else}
use Rattle.clap.specs.Facts.{explicit_source}
use Rattle.clap.specs.Faults.{check_fault, defaults_fault, positional_fault, step_fault, stray_fault, turn_fault, walk_fault}
use Rattle.clap.specs.Simple.{Shape, filled_from, help_rule, index_after}
use Rattle.clap.specs.Takes.{is_given}
use Rattle.clap.specs.Walk.{Held, Row, Rule, Step, Text, arg_by_index, has_row, idle, with_default}
use Rattle.clap.specs.declared.parser.matches.ValueSource.TheVariants.{DefaultValue}
use Rattle.tr_command.specs.CommandLine.{rule}
use Rattle.tr_command.specs.Language.{is_free_of_faults}
use Rattle.tr_command.specs.declared.arguments.Argument.{Argument}
use Rattle.tr_command.specs.declared.arguments.Argument.TheVariants.{Placed, Named, Flag}
use Rattle.tr_command.specs.Ordinary.{IsRefused, is_place, is_plain, is_well_named, left_out, shape_of, text_row}
use Rattle.tr_command.specs.Progress.{ComesTo, IsWanted, held, walk_at}
use Rattle.tr_command.proofs.OrdinaryLemmas.{defaults-are, defaults-pass, few}
use Rattle.tr_command.proofs.StepLemmas.{other_plain, other_plain-fault}

pub fault-stays : (k more : Kinds) → is_free_of_faults k ≡ false → is_free_of_faults (or_else k more) ≡ false
fault-stays [] more is = cc
fault-stays (x ∷ k) more is = refl

-- ---- a word more than there are places

-- no argument after the places has a number
unplaced : (i k : ℕ) (arguments : List Argument) → list_any is_place arguments ≡ false
    → arg_by_index (filled_from i (map rule arguments ++ help_rule ∷ [])) k ≡ None
unplaced i k [] none = refl
unplaced i k (Placed n ∷ arguments) none = absurd (true≢false none)
unplaced i k (Named n ∷ arguments) none = unplaced i k arguments none
unplaced i k (Flag n ∷ arguments) none = unplaced i k arguments none

past_places : (i : ℕ) (before arguments : List Argument) → list_all is_place before ≡ true → list_any is_place arguments ≡ false → i + length before < usize_max
    → arg_by_index (filled_from i (map rule (before ++ arguments) ++ help_rule ∷ [])) (i + length before) ≡ None
past_places i [] arguments are none fits = unplaced i (i + 0) arguments none
past_places i (Placed n ∷ before) arguments are none fits =
    let other : (i == i + suc (length before)) ≡ false = grind (arith, nat_tests) in
    let small : i + 1 ≤ usize_max = omega arith in
    let step : min (i + 1) usize_max ≡ i + 1 = min-eq_left small in
    let room : i + 1 + length before < usize_max = omega arith in
    let same : i + 1 + length before ≡ i + suc (length before) = omega arith in
    let rest = past_places (i + 1) before arguments are none room in
    rw (other, step)
    (subst (λ k. arg_by_index (filled_from (i + 1) (map rule (before ++ arguments) ++ help_rule ∷ [])) k ≡ None) same rest)
past_places i (Named n ∷ before) arguments are none fits = absurd (true≢false (sym are))
past_places i (Flag n ∷ before) arguments are none fits = absurd (true≢false (sym are))

module _ (name : Text) (arguments : List Argument) (all : List Text) where
  abbrev s : Shape
  s = shape_of name arguments

  pub refused-stray : is_well_named (map rule arguments) ≡ true → (rows : List Row) (places : List Argument) (word : Text) (words : List Text)
      → ComesTo s arguments all rows places (word ∷ words) → is_plain word ≡ true → list_any is_place places ≡ false → IsRefused s all
  unfolding walk_fault
  refused-stray named rows places word words at plain none =
      let place : ℕ = 1 + length at.before in
      let h : Held = held at.kept at.pending in
      let fits : place < usize_max = omega (arith, few name arguments all named, ap length at.whole, length-append at.before places) in
      let found : arg_by_index s.rules place ≡ None =
      ap (λ xs. arg_by_index (filled_from 1 (map rule xs ++ help_rule ∷ [])) place) (sym at.whole) ∙ past_places 1 at.before places at.are_places none fits in
      let turned : turn_fault s [] (walk_at at.kept at.pending place) word ≡ stray_fault s =
      ap₂ or_else (other_plain-fault s word h plain) (ap (λ (m : Held × Step). step_fault s place m.0 m.1) (other_plain s.rules idle place word h plain)
      ∙ ap (λ (o : Option Rule). option_map_or (λ a. positional_fault s.rules s.args_override_self a h) o (stray_fault s)) found) in
      ap is_free_of_faults (sym at.fault) ∙ fault-stays _ _ (fault-stays _ _ (ap is_free_of_faults turned))

-- ---- a place that is left

absent-ungiven : (id : Text) (rows : List Row) → has_row id rows ≡ false → is_given id rows ≡ false
absent-ungiven id [] none = refl
absent-ungiven id (r ∷ rows) none = go (bytes_eq r.id id) none (absent-ungiven id rows)
  where
    go : (b : Bool) → (b || has_row id rows) ≡ false → (has_row id rows ≡ false → is_given id rows ≡ false)
        → option_map_or (λ (x : Row). explicit_source x.source) (cond b (Some r) (find (λ x. bytes_eq x.id id) rows)) false ≡ false
    go true is rest = absurd (true≢false is)
    go false is rest = rest is

-- a flag that is left out is not given
default-ungiven : (id flag : Text) (rows : List Row) → is_given id rows ≡ false
    → is_given id (rows ++ text_row flag (codes "false") DefaultValue ∷ []) ≡ false
default-ungiven id flag [] none = go (bytes_eq flag id)
  where
    go : (b : Bool) → option_map_or (λ (x : Row). explicit_source x.source) (cond b (Some (text_row flag (codes "false") DefaultValue)) None) false ≡ false
    go true = refl
    go false = refl
default-ungiven id flag (r ∷ rows) none = go (bytes_eq r.id id) none (default-ungiven id flag rows)
  where
    go : (b : Bool) → option_map_or (λ (x : Row). explicit_source x.source) (cond b (Some r) (find (λ x. bytes_eq x.id id) rows)) false ≡ false
        → (is_given id rows ≡ false → is_given id (rows ++ text_row flag (codes "false") DefaultValue ∷ []) ≡ false)
        → option_map_or (λ (x : Row). explicit_source x.source)
        (cond b (Some r) (find (λ x. bytes_eq x.id id) (rows ++ text_row flag (codes "false") DefaultValue ∷ []))) false ≡ false
    go true is rest = is
    go false is rest = rest is

left_out-ungiven : (id : Text) (a : Argument) (rows : List Row) → is_given id rows ≡ false → is_given id (left_out rows a) ≡ false
left_out-ungiven id (Placed n) rows none = none
left_out-ungiven id (Named n) rows none = none
left_out-ungiven id (Flag n) rows none = go (has_row n.now rows)
  where
    go : (b : Bool) → is_given id (cond b rows (rows ++ text_row n.now (codes "false") DefaultValue ∷ [])) ≡ false
    go true = none
    go false = default-ungiven id n.now rows none

left_outs-ungiven : (id : Text) (arguments : List Argument) (rows : List Row) → is_given id rows ≡ false → is_given id (fold left_out rows arguments) ≡ false
left_outs-ungiven id [] rows none = none
left_outs-ungiven id (a ∷ arguments) rows none = left_outs-ungiven id arguments (left_out rows a) (left_out-ungiven id a rows none)

any-later : (a b : Bool) → b ≡ true → (a || b) ≡ true
any-later true b is = refl
any-later false b is = is

-- a place that is left is wanted
lacks : (i : ℕ) (before : List Argument) (n : Bor Text) (places : List Argument) (rows : List Row) → is_given n.now rows ≡ false
    → list_any (λ (a : Rule). a.required && not (is_given a.id rows)) (filled_from i (map rule (before ++ Placed n ∷ places) ++ help_rule ∷ [])) ≡ true
lacks i [] n places rows none = rw none refl
lacks i (a ∷ before) n places rows none = any-later _ _ (lacks (index_after i (rule a)) before n places rows none)

module _ (name : Text) (arguments : List Argument) (all : List Text) where
  abbrev t : Shape
  t = shape_of name arguments

  pub refused-left : (rows : List Row) (n : Bor Text) (places : List Argument)
      → ComesTo t arguments all rows (Placed n ∷ places) [] → has_row n.now rows ≡ false → IsRefused t all
  unfolding walk_fault
  refused-left rows n places at none =
      let rest : List Row = fold left_out rows arguments in
      let ungiven : is_given n.now rest ≡ false = left_outs-ungiven n.now arguments rows (absent-ungiven n.now rows none) in
      let lacking : list_any (λ (a : Rule). a.required && not (is_given a.id rest)) t.rules ≡ true =
      ap (λ xs. list_any (λ (a : Rule). a.required && not (is_given a.id rest)) (filled_from 1 (map rule xs ++ help_rule ∷ []))) (sym at.whole)
      ∙ lacks 1 at.before n places rest ungiven in
      ap is_free_of_faults (sym at.fault
      ∙ ap₂ (λ (k : Kinds) (rs : List Row). or_else k (or_else (defaults_fault rs t.rules) (check_fault t (fold with_default rs t.rules) false))) at.settles.passes at.settles.gives
      ∙ ap₂ (λ (k : Kinds) (rs : List Row). or_else k (check_fault t rs false)) (defaults-pass 1 arguments rows) (defaults-are 1 arguments rows)
      ∙ ap (λ (b : Bool). check_kinds false false b) lacking)

  -- the same, as the arguments are read
  pub refused-wanted : (rows : List Row) (places : List Argument) → IsWanted rows places → ComesTo t arguments all rows places [] → IsRefused t all
  refused-wanted rows [] wanted at = absurd wanted
  refused-wanted rows (Placed n ∷ places) wanted at = refused-left rows n places at wanted
  refused-wanted rows (Named n ∷ places) wanted at = absurd wanted
  refused-wanted rows (Flag n ∷ places) wanted at = absurd wanted

  pub refused-at : is_well_named (map rule arguments) ≡ true → (rows : List Row) (places : List Argument) (words : List (Bor Text)) (i : ℕ) (e : Bor Text)
      → i < length words → ComesTo t arguments all rows places (map (λ w. w.now) (drop i words)) → is_plain (get_or words i e).now ≡ true
      → list_any is_place places ≡ false → IsRefused t all
  refused-at named rows places words i e within at plain none =
      refused-stray name arguments all named rows places (get_or words i e).now (map (λ w. w.now) (drop (i + 1) words))
      (subst (λ (xs : List (Bor Text)). ComesTo t arguments all rows places (map (λ w. w.now) xs)) (drop_more words i e within) at) plain none
