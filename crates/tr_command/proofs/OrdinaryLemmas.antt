-- Clap takes an ordinary line, and these are the rows that it gives.
use Rattle.std.proofs.Common.{◌≡◌, ◌∙◌, ◌+◌, ◌<◌, ◌≤◌, ◌==◌, ◌&&◌, ◌||◌, ℕ, Bool, true, false, not, refl, sym, ap, ap₂, cond, fold, codes, List, [], ◌∷◌, ◌++◌, Option, Some, None, arith, map, subst, true≢false, length, get_or, drop, length-append, append_assoc, ltb-true}
use Rattle.std.specs.Prelude.{find, is_some}
use Rattle.std.specs.Borrow.{Bor}
use Rattle.std.specs.List.{list_all, list_any}
use Rattle.std.specs.Option.{option_map_or}
use Rattle.std.specs.Str.{bytes_eq}
use Rattle.std.proofs.lemmas.List.{length-map, map-append}
use Rattle.std.proofs.lemmas.List.Sums.{fold-append}
use Rattle.std.proofs.lemmas.List.Folds.{list_all-append}
use Rattle.std.proofs.lemmas.Slice.Eq.{bytes_eq-Decides}
use Rattle.tr_terms.proofs.BoolLemmas.{both}
use Rattle.clap.specs.Lexer.{usize_max}
use Rattle.clap.specs.Kinds.{Kinds, check_kinds, or_else}
use Rattle.clap.specs.Facts.{explicit_source}
use Rattle.clap.specs.Faults.{check_fault, default_fault, defaults_fault, settle_fault, turn_fault, walk_fault}
use Rattle.clap.specs.Simple.{Shape, filled, filled_from, help_rule, index_after, with_index}
use Rattle.clap.specs.Takes.{is_given}
use Rattle.clap.specs.Walk.{Row, Rule, Text, Walk, arg_by_id, arg_by_index, arg_by_long, finished, has_long, has_row, settled, settled_rows, walked, with_default}
use Rattle.clap.specs.declared.parser.matches.ValueSource.TheVariants.{CommandLine, DefaultValue}
use Rattle.tr_command.specs.CommandLine.{rule}
use Rattle.tr_command.specs.declared.arguments.Argument.{Argument}
use Rattle.tr_command.specs.declared.arguments.Argument.TheVariants.{Placed, Named, Flag}
use Rattle.tr_command.specs.Ordinary.{IsTaken, has_distinct_names, is_called, is_long_name, is_place, is_plain, is_well_named, left_out, shape_of, text_row}
use Rattle.tr_command.specs.Progress.{ComesTo, fault_from, is_filled, rows_from, walk_at}
use Rattle.tr_command.proofs.StepLemmas.{built_flag, built_option, built_place, flag_turned, flag_walked, option_met, option_settles, option_text, option_turned, place_settles, place_turned, place_walked, text_turned, waiting_for, with_values-absent}
use Rattle.tr_command.proofs.FoundLemmas.{by_long, by_name, by_place}

-- ---- one more word

fault-next : (s : Shape) (w v : Walk) (word : Text) (words : List Text) → turn_fault s [] w word ≡ [] → walked s.rules [] w word ≡ v
    → fault_from s w (word ∷ words) ≡ fault_from s v words
unfolding walk_fault
fault-next s w v word words turned is =
    ap₂ (λ (k : Kinds) (x : Walk). let end = (fold (walked s.rules []) x words).held in
    or_else (or_else k (walk_fault s [] x words)) (or_else (settle_fault s.rules s.args_override_self end)
    (or_else (defaults_fault (settled s.rules end).rows s.rules) (check_fault s (finished s.rules end) false)))) turned is

rows-next : (s : Shape) (w v : Walk) (word : Text) (words : List Text) → walked s.rules [] w word ≡ v → rows_from s w (word ∷ words) ≡ rows_from s v words
rows-next s w v word words is = ap (λ (x : Walk). finished s.rules (fold (walked s.rules []) x words).held) is

-- ---- what is given stays given

given-next : (b : Bool) (r : Row) (there more : Option Row) → option_map_or (λ x. explicit_source x.source) (cond b (Some r) there) false ≡ true
    → (option_map_or (λ x. explicit_source x.source) there false ≡ true → option_map_or (λ x. explicit_source x.source) more false ≡ true)
    → option_map_or (λ x. explicit_source x.source) (cond b (Some r) more) false ≡ true
given-next true r there more is later = is
given-next false r there more is later = later is

given-more : (id : Text) (rows more : List Row) → is_given id rows ≡ true → is_given id (rows ++ more) ≡ true
given-more id [] more is = absurd (true≢false (sym is))
given-more id (r ∷ rows) more is = given-next (bytes_eq r.id id) r (find (λ x. bytes_eq x.id id) rows) (find (λ x. bytes_eq x.id id) (rows ++ more)) is (given-more id rows more)

last-next : (b : Bool) (r : Row) (there : Option Row) (absent : Bool) → (b || absent) ≡ false
    → (absent ≡ false → option_map_or (λ x. explicit_source x.source) there false ≡ true)
    → option_map_or (λ x. explicit_source x.source) (cond b (Some r) there) false ≡ true
last-next true r there absent is later = absurd (true≢false is)
last-next false r there absent is later = later is

given-last : (id text : Text) (rows : List Row) → has_row id rows ≡ false → is_given id (rows ++ text_row id text CommandLine ∷ []) ≡ true
given-last id text [] none = ap (λ b. option_map_or (λ (x : Row). explicit_source x.source) (cond b (Some (text_row id text CommandLine)) None) false) ((bytes_eq-Decides id id).1 refl)
given-last id text (r ∷ rows) none = last-next (bytes_eq r.id id) r (find (λ x. bytes_eq x.id id) (rows ++ text_row id text CommandLine ∷ [])) (has_row id rows) none
    (given-last id text rows)

filled-more : (rows more : List Row) (arguments : List Argument) → list_all (is_filled rows) arguments ≡ true → list_all (is_filled (rows ++ more)) arguments ≡ true
filled-more rows more [] is = refl
filled-more rows more (Placed n ∷ arguments) is =
    let parts = both _ _ is in
    ap₂ (λ (a b : Bool). a && b) (given-more n.now rows more parts.0) (filled-more rows more arguments parts.1)
filled-more rows more (Named n ∷ arguments) is = filled-more rows more arguments is
filled-more rows more (Flag n ∷ arguments) is = filled-more rows more arguments is

-- ---- after the last word

module _ {A : Type 0} where
  either_way : (b : Bool) (x : A) → cond b x x ≡ x
  either_way true x = refl
  either_way false x = refl

  first_way : (b : Bool) (x y : A) → cond (b || true) x y ≡ x
  first_way true x y = refl
  first_way false x y = refl

default-passes : (i : ℕ) (a : Argument) (rows : List Row) → default_fault rows (with_index i (filled (rule a))) ≡ []
default-passes i (Placed n) rows = either_way (has_row n.now rows || true) []
default-passes i (Named n) rows = either_way (has_row n.now rows || true) []
default-passes i (Flag n) rows = either_way (has_row n.now rows || false) []

pub defaults-pass : (i : ℕ) (arguments : List Argument) (rows : List Row) → defaults_fault rows (filled_from i (map rule arguments ++ help_rule ∷ [])) ≡ []
unfolding defaults_fault
defaults-pass i [] rows = ap (λ k. or_else k []) (first_way (has_row (codes "help") rows) [] _)
defaults-pass i (a ∷ arguments) rows =
    ap (λ (k : Kinds). or_else k (defaults_fault (with_default rows (with_index i (filled (rule a))))
    (filled_from (index_after i (rule a)) (map rule arguments ++ help_rule ∷ [])))) (default-passes i a rows)
    ∙ defaults-pass (index_after i (rule a)) arguments (with_default rows (with_index i (filled (rule a))))

none-lacks : (i : ℕ) (arguments : List Argument) (rows : List Row) → list_all (is_filled rows) arguments ≡ true
    → list_any (λ (a : Rule). a.required && not (is_given a.id rows)) (filled_from i (map rule arguments ++ help_rule ∷ [])) ≡ false
none-lacks i [] rows are = refl
none-lacks i (Placed n ∷ arguments) rows are =
    let parts = both _ _ are in
    ap₂ (λ (given lack : Bool). not given || lack) parts.0 (none-lacks (index_after i (rule (Placed n))) arguments rows parts.1)
none-lacks i (Named n ∷ arguments) rows are = none-lacks i arguments rows are
none-lacks i (Flag n ∷ arguments) rows are = none-lacks i arguments rows are

default-step : (i : ℕ) (a : Argument) (rows : List Row) → with_default rows (with_index i (filled (rule a))) ≡ left_out rows a
default-step i (Placed n) rows = either_way (has_row n.now rows) rows
default-step i (Named n) rows = either_way (has_row n.now rows) rows
default-step i (Flag n) rows = go (has_row n.now rows) refl
  where
    go : (b : Bool) → has_row n.now rows ≡ b → with_default rows (with_index i (filled (rule (Flag n)))) ≡ left_out rows (Flag n)
    go true is = rw is refl
    go false is = rw is (with_values-absent n.now (codes "false") DefaultValue rows is)

pub defaults-are : (i : ℕ) (arguments : List Argument) (rows : List Row)
    → fold with_default rows (filled_from i (map rule arguments ++ help_rule ∷ [])) ≡ fold left_out rows arguments
defaults-are i [] rows = either_way (has_row (codes "help") rows) rows
defaults-are i (a ∷ arguments) rows =
    ap (λ (rs : List Row). fold with_default rs (filled_from (index_after i (rule a)) (map rule arguments ++ help_rule ∷ []))) (default-step i a rows)
    ∙ defaults-are (index_after i (rule a)) arguments (left_out rows a)

-- what is left out fills no place, and takes none
filled-left_out : (rows : List Row) (a : Argument) (arguments : List Argument) → list_all (is_filled rows) arguments ≡ true
    → list_all (is_filled (left_out rows a)) arguments ≡ true
filled-left_out rows (Placed n) arguments are = are
filled-left_out rows (Named n) arguments are = are
filled-left_out rows (Flag n) arguments are = go (has_row n.now rows)
  where
    go : (b : Bool) → list_all (is_filled (cond b rows (rows ++ text_row n.now (codes "false") DefaultValue ∷ []))) arguments ≡ true
    go true = are
    go false = filled-more rows _ arguments are

filled-left_outs : (rows : List Row) (left arguments : List Argument) → list_all (is_filled rows) arguments ≡ true
    → list_all (is_filled (fold left_out rows left)) arguments ≡ true
filled-left_outs rows [] arguments are = are
filled-left_outs rows (a ∷ left) arguments are = filled-left_outs (left_out rows a) left arguments (filled-left_out rows a arguments are)

places-left_out : (rows : List Row) (places : List Argument) → list_all is_place places ≡ true → fold left_out rows places ≡ rows
places-left_out rows [] are = refl
places-left_out rows (Placed n ∷ places) are = places-left_out rows places are
places-left_out rows (Named n ∷ places) are = absurd (true≢false (sym are))
places-left_out rows (Flag n ∷ places) are = absurd (true≢false (sym are))

no_places-filled : (rows : List Row) (arguments : List Argument) → list_any is_place arguments ≡ false → list_all (is_filled rows) arguments ≡ true
no_places-filled rows [] none = refl
no_places-filled rows (Placed n ∷ arguments) none = absurd (true≢false none)
no_places-filled rows (Named n ∷ arguments) none = no_places-filled rows arguments none
no_places-filled rows (Flag n ∷ arguments) none = no_places-filled rows arguments none

-- ---- what is found

module _ {X Y : Type 0} (f : X → Y) (test : X → Bool) (p : Y → Bool) where
  found-next : (b : Bool) (x a : X) (there : Option X) → test x ≡ b → cond b (Some x) there ≡ Some a → p (f x) ≡ true
      → (there ≡ Some a → (test a ≡ true) × (p (f a) ≡ true)) → (test a ≡ true) × (p (f a) ≡ true)
  found-next true x a there passes is here later = let same : x ≡ a = cc in subst (λ y. (test y ≡ true) × (p (f y) ≡ true)) same (passes, here)
  found-next false x a there passes is here later = later is

  found-all : (xs : List X) (a : X) → find test xs ≡ Some a → list_all p (map f xs) ≡ true → (test a ≡ true) × (p (f a) ≡ true)
  found-all [] a is holds = cc
  found-all (x ∷ xs) a is holds =
      let parts = both _ _ holds in
      found-next (test x) x a (find test xs) refl is parts.0 (λ later. found-all xs a later parts.1)

-- ---- from use to use

module _ (name : Text) (arguments : List Argument) (all : List Text) where
  abbrev s : Shape
  s = shape_of name arguments

  pub comes_to-first : ComesTo s arguments all [] arguments all
  comes_to-first = record {
    kept = [];
    pending = None;
    settles = record { gives = refl; passes = refl };
    before = [];
    whole = refl;
    are_places = refl;
    are_filled = refl;
    fault = refl;
    taken = refl;
  }

  pub comes_to-as : (rows more : List Row) (places : List Argument) (words left : List Text) → rows ≡ more → words ≡ left
      → ComesTo s arguments all rows places words → ComesTo s arguments all more places left
  comes_to-as rows more places words left same rest at =
      subst (λ ws. ComesTo s arguments all more places ws) rest (subst (λ rs. ComesTo s arguments all rs places words) same at)

  -- clap takes the line, if no place is left
  pub taken-last : (rows rest : List Row) (places : List Argument) → ComesTo s arguments all rows places [] → list_any is_place places ≡ false
      → fold left_out rows places ≡ rest → IsTaken s all rest
  unfolding walk_fault
  taken-last rows rest places at none is =
      let ended : fold left_out rows arguments ≡ rest =
      ap (fold left_out rows) (sym at.whole) ∙ fold-append left_out rows at.before places
      ∙ ap (λ rs. fold left_out rs places) (places-left_out rows at.before at.are_places) ∙ is in
      let finished : fold with_default rows s.rules ≡ rest = defaults-are 1 arguments rows ∙ ended in
      let filled : list_all (is_filled rest) arguments ≡ true =
      ap (λ xs. list_all (is_filled rest) xs) (sym at.whole) ∙ list_all-append (is_filled rest) at.before places
      ∙ ap₂ (λ (a b : Bool). a && b) (subst (λ rs. list_all (is_filled rs) at.before ≡ true) is (filled-left_outs rows places at.before at.are_filled))
      (no_places-filled rest places none) in
      let checked : check_fault s rest false ≡ [] = ap (λ (b : Bool). check_kinds false false b) (none-lacks 1 arguments rest filled) in (
        sym at.fault
            ∙ ap₂ (λ (k : Kinds) (rs : List Row). or_else k (or_else (defaults_fault rs s.rules) (check_fault s (fold with_default rs s.rules) false))) at.settles.passes at.settles.gives
            ∙ ap₂ (λ (k : Kinds) (rs : List Row). or_else k (check_fault s rs false)) (defaults-pass 1 arguments rows) finished
            ∙ checked,
        sym at.taken ∙ ap (λ (rs : List Row). fold with_default rs s.rules) at.settles.gives ∙ finished,
      )

  abbrev pub IsWellNamed : Type 0
  IsWellNamed = is_well_named (map rule arguments) ≡ true

  pub few : IsWellNamed → length arguments < 1000
  few named = let n : length (map rule arguments) < 1000 = ltb-true _ _ (both _ _ named).0 in omega (arith, length-map arguments rule)

  distinct : IsWellNamed → has_distinct_names s.rules ≡ true
  distinct named = (both _ _ (both _ _ named).1).0

  long_names : IsWellNamed → list_all (λ (r : Rule). option_map_or is_long_name r.long true) (map rule arguments) ≡ true
  long_names named = (both _ _ (both _ _ named).1).1

  -- a word for the next place
  pub comes_to-place : IsWellNamed → (rows : List Row) (n : Bor Text) (word : Text) (places : List Argument) (words : List Text)
      → ComesTo s arguments all rows (Placed n ∷ places) (word ∷ words) → is_plain word ≡ true → has_row n.now rows ≡ false
      → ComesTo s arguments all (rows ++ text_row n.now word CommandLine ∷ []) places words
  comes_to-place named rows n word places words at plain none =
      let place : ℕ = 1 + length at.before in
      let rest : List Rule = map rule places ++ help_rule ∷ [] in
      let cut : map rule arguments ++ help_rule ∷ [] ≡ map rule at.before ++ (rule (Placed n) ∷ rest) =
      ap (λ xs. map rule xs ++ help_rule ∷ []) (sym at.whole) ∙ ap (λ ys. ys ++ help_rule ∷ []) (map-append rule at.before (Placed n ∷ places))
      ∙ append_assoc (map rule at.before) (rule (Placed n) ∷ map rule places) (help_rule ∷ []) in
      let fits : place < usize_max = omega (arith, few named, ap length at.whole, length-append at.before (Placed n ∷ places)) in
      let found : arg_by_index s.rules place ≡ Some (built_place place n.now) =
      ap (λ rs. arg_by_index (filled_from 1 rs) place) cut ∙ by_place 1 at.before n rest at.are_places fits in
      let own : arg_by_id s.rules n.now ≡ Some (built_place place n.now) =
      by_name (λ a. option_map_or (λ k. k == place) a.index false) s.rules (built_place place n.now) found (distinct named) in
      let number : place + 1 ≡ 1 + length (at.before ++ Placed n ∷ []) = omega (arith, length-append at.before (Placed n ∷ [])) in
      let moved : walked s.rules [] (walk_at at.kept at.pending place) word ≡ walk_at rows (Some (n.now, word ∷ [])) (1 + length (at.before ++ Placed n ∷ [])) =
      place_walked s at.kept at.pending place n.now word found plain fits
      ∙ ap₂ (λ rs k. walk_at rs (Some (n.now, word ∷ [])) k) at.settles.gives number in
      let turned : turn_fault s [] (walk_at at.kept at.pending place) word ≡ [] =
      place_turned s at.kept at.pending place n.now word found plain at.settles.passes in
      record {
        kept = rows;
        pending = Some (n.now, word ∷ []);
        settles = place_settles s place n.now word rows own none;
        before = at.before ++ Placed n ∷ [];
        whole = append_assoc at.before (Placed n ∷ []) places ∙ at.whole;
        are_places = list_all-append is_place at.before (Placed n ∷ []) ∙ ap (λ b. b && true) at.are_places;
        are_filled = list_all-append (is_filled (rows ++ text_row n.now word CommandLine ∷ [])) at.before (Placed n ∷ [])
            ∙ ap₂ (λ (a b : Bool). a && (b && true)) (filled-more rows (text_row n.now word CommandLine ∷ []) at.before at.are_filled) (given-last n.now word rows none);
        fault = sym (fault-next s _ _ word words turned moved) ∙ at.fault;
        taken = sym (rows-next s _ _ word words moved) ∙ at.taken;
      }

  -- `--name` of an option, and its text
  option-at : IsWellNamed → (rows : List Row) (n : Bor Text) (text : Text) (places : List Argument) (words : List Text)
      → ComesTo s arguments all rows places ((45 ∷ 45 ∷ n.now) ∷ text ∷ words) → find (is_called n.now) arguments ≡ Some (Named n)
      → is_plain text ≡ true → has_row n.now rows ≡ false
      → ComesTo s arguments all (rows ++ text_row n.now text CommandLine ∷ []) places words
  option-at named rows n text places words at called plain none =
      let place : ℕ = 1 + length at.before in
      let long : is_long_name n.now ≡ true =
      (found-all rule (is_called n.now) (λ r. option_map_or is_long_name r.long true) arguments (Named n) called (long_names named)).1 in
      let found : arg_by_long s.rules n.now ≡ Some (built_option n.now) = by_long 1 arguments n.now (help_rule ∷ []) (Named n) called in
      let own : arg_by_id s.rules n.now ≡ Some (built_option n.now) =
      by_name (λ a. not (is_some a.index) && has_long a n.now) s.rules (built_option n.now) found (distinct named) in
      let first : walked s.rules [] (walk_at at.kept at.pending place) (45 ∷ 45 ∷ n.now) ≡ waiting_for rows n.now place =
      option_met s at.kept at.pending place n.now long found ∙ ap (λ rs. waiting_for rs n.now place) at.settles.gives in
      let second : walked s.rules [] (waiting_for rows n.now place) text ≡ walk_at rows (Some (n.now, text ∷ [])) place =
      option_text s rows place n.now text own plain in
      let turned : turn_fault s [] (walk_at at.kept at.pending place) (45 ∷ 45 ∷ n.now) ≡ [] =
      option_turned s at.kept at.pending place n.now long found at.settles.passes in
      record {
        kept = rows;
        pending = Some (n.now, text ∷ []);
        settles = option_settles s n.now text rows own none;
        before = at.before;
        whole = at.whole;
        are_places = at.are_places;
        are_filled = filled-more rows (text_row n.now text CommandLine ∷ []) at.before at.are_filled;
        fault = sym (fault-next s _ _ (45 ∷ 45 ∷ n.now) (text ∷ words) turned first
            ∙ fault-next s _ _ text words (text_turned s rows place n.now text plain) second) ∙ at.fault;
        taken = sym (rows-next s _ _ (45 ∷ 45 ∷ n.now) (text ∷ words) first ∙ rows-next s _ _ text words second) ∙ at.taken;
      }

  -- `--name` of a flag
  flag-at : IsWellNamed → (rows : List Row) (n : Bor Text) (places : List Argument) (words : List Text)
      → ComesTo s arguments all rows places ((45 ∷ 45 ∷ n.now) ∷ words) → find (is_called n.now) arguments ≡ Some (Flag n) → has_row n.now rows ≡ false
      → ComesTo s arguments all (rows ++ text_row n.now (codes "true") CommandLine ∷ []) places words
  flag-at named rows n places words at called none =
      let place : ℕ = 1 + length at.before in
      let long : is_long_name n.now ≡ true =
      (found-all rule (is_called n.now) (λ r. option_map_or is_long_name r.long true) arguments (Flag n) called (long_names named)).1 in
      let found : arg_by_long s.rules n.now ≡ Some (built_flag n.now) = by_long 1 arguments n.now (help_rule ∷ []) (Flag n) called in
      let absent : has_row n.now (settled_rows s.rules at.pending at.kept) ≡ false = ap (has_row n.now) at.settles.gives ∙ none in
      let moved : walked s.rules [] (walk_at at.kept at.pending place) (45 ∷ 45 ∷ n.now)
      ≡ walk_at (rows ++ text_row n.now (codes "true") CommandLine ∷ []) None place =
      flag_walked s at.kept at.pending place n.now long found absent
      ∙ ap (λ rs. walk_at (rs ++ text_row n.now (codes "true") CommandLine ∷ []) None place) at.settles.gives in
      let turned : turn_fault s [] (walk_at at.kept at.pending place) (45 ∷ 45 ∷ n.now) ≡ [] =
      flag_turned s at.kept at.pending place n.now long found absent at.settles.passes in
      record {
        kept = rows ++ text_row n.now (codes "true") CommandLine ∷ [];
        pending = None;
        settles = record { gives = refl; passes = refl };
        before = at.before;
        whole = at.whole;
        are_places = at.are_places;
        are_filled = filled-more rows (text_row n.now (codes "true") CommandLine ∷ []) at.before at.are_filled;
        fault = sym (fault-next s _ _ (45 ∷ 45 ∷ n.now) words turned moved) ∙ at.fault;
        taken = sym (rows-next s _ _ (45 ∷ 45 ∷ n.now) words moved) ∙ at.taken;
      }

  -- the name as the word has it
  pub comes_to-option : IsWellNamed → (rows : List Row) (n : Bor Text) (word text : Text) (places : List Argument) (words : List Text)
      → ComesTo s arguments all rows places ((45 ∷ 45 ∷ word) ∷ text ∷ words) → find (is_called word) arguments ≡ Some (Named n)
      → is_plain text ≡ true → has_row n.now rows ≡ false
      → ComesTo s arguments all (rows ++ text_row n.now text CommandLine ∷ []) places words
  comes_to-option named rows n word text places words at called plain none =
      let same : word ≡ n.now = sym ((bytes_eq-Decides n.now word).0
      (found-all rule (is_called word) (λ r. option_map_or is_long_name r.long true) arguments (Named n) called (long_names named)).0) in
      option-at named rows n text places words (subst (λ w. ComesTo s arguments all rows places ((45 ∷ 45 ∷ w) ∷ text ∷ words)) same at)
      (subst (λ w. find (is_called w) arguments ≡ Some (Named n)) same called) plain none

  pub comes_to-flag : IsWellNamed → (rows : List Row) (n : Bor Text) (word : Text) (places : List Argument) (words : List Text)
      → ComesTo s arguments all rows places ((45 ∷ 45 ∷ word) ∷ words) → find (is_called word) arguments ≡ Some (Flag n) → has_row n.now rows ≡ false
      → ComesTo s arguments all (rows ++ text_row n.now (codes "true") CommandLine ∷ []) places words
  comes_to-flag named rows n word places words at called none =
      let same : word ≡ n.now = sym ((bytes_eq-Decides n.now word).0
      (found-all rule (is_called word) (λ r. option_map_or is_long_name r.long true) arguments (Flag n) called (long_names named)).0) in
      flag-at named rows n places words (subst (λ w. ComesTo s arguments all rows places ((45 ∷ 45 ∷ w) ∷ words)) same at)
      (subst (λ w. find (is_called w) arguments ≡ Some (Flag n)) same called) none

  -- the same, as the words are read
  pub next-place : IsWellNamed → (rows : List Row) (places left : List Argument) (words : List (Bor Text)) (n e : Bor Text)
      → places ≡ Placed n ∷ left → 1 ≤ length words → is_plain (get_or words 0 e).now ≡ true → has_row n.now rows ≡ false
      → ComesTo s arguments all rows places (map (λ w. w.now) words)
      → ComesTo s arguments all (rows ++ text_row n.now (get_or words 0 e).now CommandLine ∷ []) left (map (λ w. w.now) (drop 1 words))
  next-place named rows places left [] n e is some plain none at = absurd (omega arith)
  next-place named rows places left (w ∷ words) n e is some plain none at =
      comes_to-place named rows n w.now left (map (λ x. x.now) words)
      (subst (λ ps. ComesTo s arguments all rows ps (w.now ∷ map (λ x. x.now) words)) is at) plain none

  pub next-flag : IsWellNamed → (rows : List Row) (places : List Argument) (words : List (Bor Text)) (n : Bor Text) (called : Text) (e : Bor Text)
      → 1 ≤ length words → (get_or words 0 e).now ≡ 45 ∷ 45 ∷ called → find (is_called called) arguments ≡ Some (Flag n) → has_row n.now rows ≡ false
      → ComesTo s arguments all rows places (map (λ w. w.now) words)
      → ComesTo s arguments all (rows ++ text_row n.now (codes "true") CommandLine ∷ []) places (map (λ w. w.now) (drop 1 words))
  next-flag named rows places [] n called e some is found none at = absurd (omega arith)
  next-flag named rows places (w ∷ words) n called e some is found none at =
      comes_to-flag named rows n called places (map (λ x. x.now) words)
      (subst (λ q. ComesTo s arguments all rows places (q ∷ map (λ x. x.now) words)) is at) found none

  pub next-option : IsWellNamed → (rows : List Row) (places : List Argument) (words rest : List (Bor Text)) (n : Bor Text) (called text : Text) (e : Bor Text)
      → rest ≡ drop 1 words → map (λ w. w.now) rest ≡ text ∷ map (λ w. w.now) (drop 1 rest) → 1 ≤ length words → (get_or words 0 e).now ≡ 45 ∷ 45 ∷ called
      → find (is_called called) arguments ≡ Some (Named n) → is_plain text ≡ true → has_row n.now rows ≡ false
      → ComesTo s arguments all rows places (map (λ w. w.now) words)
      → ComesTo s arguments all (rows ++ text_row n.now text CommandLine ∷ []) places (map (λ w. w.now) (drop 2 words))
  next-option named rows places [] rest n called text e cut first some is found plain none at = absurd (omega arith)
  next-option named rows places (w ∷ words) rest n called text e cut first some is found plain none at =
      let texts : map (λ x. x.now) words ≡ text ∷ map (λ x. x.now) (drop 1 words) =
      subst (λ (xs : List (Bor Text)). map (λ x. x.now) xs ≡ text ∷ map (λ x. x.now) (drop 1 xs)) cut first in
      comes_to-option named rows n called text places (map (λ x. x.now) (drop 1 words))
      (subst (λ ws. ComesTo s arguments all rows places ((45 ∷ 45 ∷ called) ∷ ws)) texts
      (subst (λ q. ComesTo s arguments all rows places (q ∷ map (λ x. x.now) words)) is at)) found plain none
