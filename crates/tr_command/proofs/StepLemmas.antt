-- What clap's walk does with the words of an ordinary line, one use of an argument at a time.
use Rattle.std.proofs.Common.{◌≡◌, ◌∙◌, ◌+◌, ◌<◌, ◌≤◌, ◌==◌, ◌&&◌, ◌||◌, ℕ, Bool, true, false, not, refl, sym, ap, ap₂, List, [], ◌∷◌, ◌++◌, Option, Some, None, arith, true≢false, append-nil}
use Rattle.std.proofs.Math.Nat.{min-eq_left}
use Rattle.std.specs.Prelude.{codes, is_some}
use Rattle.std.specs.Option.{option_map_or}
use Rattle.std.specs.Str.{bytes_eq}
use Rattle.std.proofs.lemmas.Slice.Eq.{bytes_eq-Decides}
use Rattle.tr_terms.proofs.BoolLemmas.{both}
use Rattle.clap.specs.Lexer.{long_of, usize_max}
use Rattle.clap.specs.Walk.{Held, Row, Rule, Step, Text, Waiting, Walk, after_flag, after_step, long_or_other, arg_by_id, arg_by_index, arg_by_long, at_row, has_row, idle, long_met, long_word, next, option, option_word, plain_word, settled_rows, subcommand_or_other, to_positional, walked, with_values, without, used_by_id, more_values}
use Rattle.clap.specs.Simple.{Shape, filled, with_index}
use Rattle.clap.specs.Faults.{flag_word_fault, long_fault, other_fault, positional_fault, settle_fault, step_fault, stray_fault, turn_fault, use_fault}
use Rattle.clap.specs.Kinds.{or_else}
use Rattle.clap.specs.declared.builder.value_parser.Reading.TheVariants.{AsWritten}
use Rattle.clap.specs.declared.parser.matches.ValueSource.{ValueSource}
use Rattle.clap.specs.declared.parser.matches.ValueSource.TheVariants.{CommandLine}
use Rattle.tr_command.specs.CommandLine as line
use Rattle.tr_command.specs.Ordinary.{is_long_name, is_plain, text_row}
use Rattle.tr_command.specs.Progress.{Settles, held, walk_at}

-- ---- booleans and texts

and_false : (b : Bool) → (b && false) ≡ false
and_false true = refl
and_false false = refl

pub same_text : (text : Text) → bytes_eq text text ≡ true
same_text text = (bytes_eq-Decides text text).1 refl

-- ---- the rules of a command that is built

abbrev pub built_place : ℕ → Text → Rule
built_place place id = with_index place (filled (line.place id))

abbrev pub built_option : Text → Rule
built_option id = filled (line.option id)

abbrev pub built_flag : Text → Rule
built_flag id = filled (line.flag id)

-- the walk after `--id` of an option
abbrev pub waiting_for : List Row → Text → ℕ → Walk
waiting_for rows id place = record (walk_at rows (Some (id, [])) place) { waiting = option id }

-- ---- a word that begins with no hyphen

pub other_plain : (c : List Rule) (waiting : Waiting) (place : ℕ) (word : Text) (h : Held) → is_plain word ≡ true
    → subcommand_or_other c None waiting place word h ≡ plain_word c waiting word h
other_plain c waiting place [] h e = refl
other_plain c waiting place (b ∷ bs) h e = go (b == 45) refl e
  where
    go : (t : Bool) → (b == 45) ≡ t → not t ≡ true → subcommand_or_other c None waiting place (b ∷ bs) h ≡ plain_word c waiting (b ∷ bs) h
    go true is plain = cc
    go false is plain = rw (is, is) refl

pub other_plain-fault : (s : Shape) (word : Text) (h : Held) → is_plain word ≡ true → other_fault s None word h ≡ []
other_plain-fault s [] h e = refl
other_plain-fault s (b ∷ bs) h e = go (b == 45) refl e
  where
    go : (t : Bool) → (b == 45) ≡ t → not t ≡ true → other_fault s None (b ∷ bs) h ≡ []
    go true is plain = cc
    go false is plain = rw (is, is) refl

-- ---- `--name`

long_name : (name : Text) → is_long_name name ≡ true → long_of (45 ∷ 45 ∷ name) ≡ Some (name, None)
long_name name e = go (long_of (45 ∷ 45 ∷ name)) refl e
  where
    go : (o : Option (Text × Option Text)) → long_of (45 ∷ 45 ∷ name) ≡ o
        → option_map_or (λ p. bytes_eq p.0 name && not (is_some p.1)) o false ≡ true → long_of (45 ∷ 45 ∷ name) ≡ Some (name, None)
    go None is e = absurd (true≢false (sym e))
    go (Some (n, Some v)) is e = absurd (true≢false (sym e ∙ and_false (bytes_eq n name)))
    go (Some (n, None)) is e = is ∙ ap (λ m. Some (m, None)) ((bytes_eq-Decides n name).0 (both _ _ e).0)

other_long : (c : List Rule) (place : ℕ) (name : Text) (h : Held) → is_long_name name ≡ true
    → subcommand_or_other c None idle place (45 ∷ 45 ∷ name) h ≡ long_word c idle (45 ∷ 45 ∷ name) name None h
other_long c place [] h e = absurd (true≢false (sym e))
other_long c place (b ∷ bs) h e = ap (λ o. long_or_other c idle (45 ∷ 45 ∷ b ∷ bs) o h) (long_name (b ∷ bs) e)

other_long-fault : (s : Shape) (name : Text) (h : Held) → is_long_name name ≡ true
    → other_fault s None (45 ∷ 45 ∷ name) h ≡ long_fault s.rules s.args_override_self (arg_by_long s.rules name) None h
other_long-fault s [] h e = absurd (true≢false (sym e))
other_long-fault s (b ∷ bs) h e = ap (λ o. flag_word_fault s.rules s.args_override_self o (45 ∷ 45 ∷ b ∷ bs) h) (long_name (b ∷ bs) e)

-- ---- a new row

module _ (id : Text) (change : Row → List Row) (missing : List Row) where
  at_row-next : (t : Bool) (r : Row) (rows : List Row) → bytes_eq r.id id ≡ t → (t || has_row id rows) ≡ false
      → (has_row id rows ≡ false → at_row id change missing rows ≡ rows ++ missing) → at_row id change missing (r ∷ rows) ≡ (r ∷ rows) ++ missing
  at_row-next true r rows is absent rest = absurd (true≢false absent)
  at_row-next false r rows is absent rest = rw is (ap (λ (rs : List Row). r ∷ rs) (rest absent))

  at_row-absent : (rows : List Row) → has_row id rows ≡ false → at_row id change missing rows ≡ rows ++ missing
  at_row-absent [] none = refl
  at_row-absent (r ∷ rows) none = at_row-next (bytes_eq r.id id) r rows refl none (at_row-absent rows)

without-absent : (id : Text) (rows : List Row) → has_row id rows ≡ false → without id rows ≡ rows
without-absent id rows none = at_row-absent id (λ _. []) [] rows none ∙ append-nil rows

pub with_values-absent : (id text : Text) (source : ValueSource) (rows : List Row) → has_row id rows ≡ false
    → with_values id AsWritten source (text ∷ []) rows ≡ rows ++ text_row id text source ∷ []
with_values-absent id text source rows none = at_row-absent id (more_values source (text ∷ [])) (text_row id text source ∷ []) rows none

with_text : (id text : Text) (rows : List Row) → has_row id rows ≡ false
    → with_values id AsWritten CommandLine (text ∷ []) (without id rows) ≡ rows ++ text_row id text CommandLine ∷ []
with_text id text rows none = ap (with_values id AsWritten CommandLine (text ∷ [])) (without-absent id rows none)
    ∙ with_values-absent id text CommandLine rows none

-- ---- a use of an argument

module _ (s : Shape) where
  abbrev pub c : List Rule
  c = s.rules

  -- a text that was given to a place or an option, and is used
  pub place_settles : (place : ℕ) (id text : Text) (rows : List Row) → arg_by_id c id ≡ Some (built_place place id) → has_row id rows ≡ false
      → Settles s rows (Some (id, text ∷ [])) (rows ++ text_row id text CommandLine ∷ [])
  place_settles place id text rows found none = record {
    gives = ap (λ (o : Option Rule). used_by_id o (text ∷ []) rows) found ∙ with_text id text rows none;
    passes = ap (λ (o : Option Rule). option_map_or (λ a. use_fault s.args_override_self a (text ∷ []) rows) o []) found ∙ rw none refl;
  }

  pub option_settles : (id text : Text) (rows : List Row) → arg_by_id c id ≡ Some (built_option id) → has_row id rows ≡ false
      → Settles s rows (Some (id, text ∷ [])) (rows ++ text_row id text CommandLine ∷ [])
  option_settles id text rows found none = record {
    gives = ap (λ (o : Option Rule). used_by_id o (text ∷ []) rows) found ∙ with_text id text rows none;
    passes = ap (λ (o : Option Rule). option_map_or (λ a. use_fault s.args_override_self a (text ∷ []) rows) o []) found ∙ rw none refl;
  }

  pub place_walked : (kept : List Row) (pending : Option (Text × List Text)) (place : ℕ) (id word : Text)
      → arg_by_index c place ≡ Some (built_place place id) → is_plain word ≡ true → place < usize_max
      → walked c [] (walk_at kept pending place) word ≡ walk_at (settled_rows c pending kept) (Some (id, word ∷ [])) (place + 1)
  unfolding walked
  place_walked kept pending place id word found plain fits =
      let h : Held = held kept pending in
      let w : Walk = walk_at kept pending place in
      let room : place + 1 ≤ usize_max = omega arith in
      ap (λ (m : Held × Step). after_step c word w m.0 m.1) (other_plain c idle place word h plain)
      ∙ ap (λ (o : Option Rule). to_positional c o word w h) found
      ∙ rw (and_false, min-eq_left) refl

  pub place_turned : (kept : List Row) (pending : Option (Text × List Text)) (place : ℕ) (id word : Text)
      → arg_by_index c place ≡ Some (built_place place id) → is_plain word ≡ true → settle_fault c s.args_override_self (held kept pending) ≡ []
      → turn_fault s [] (walk_at kept pending place) word ≡ []
  place_turned kept pending place id word found plain passes =
      let h : Held = held kept pending in
      ap₂ or_else (other_plain-fault s word h plain) (ap (λ (m : Held × Step). step_fault s place m.0 m.1) (other_plain c idle place word h plain)
      ∙ ap (λ (o : Option Rule). option_map_or (λ a. positional_fault c s.args_override_self a h) o (stray_fault s)) found
      ∙ rw and_false passes)

  -- `--name` of an option, and then the text that it takes
  pub option_met : (kept : List Row) (pending : Option (Text × List Text)) (place : ℕ) (id : Text)
      → is_long_name id ≡ true → arg_by_long c id ≡ Some (built_option id)
      → walked c [] (walk_at kept pending place) (45 ∷ 45 ∷ id) ≡ waiting_for (settled_rows c pending kept) id place
  unfolding walked
  option_met kept pending place id named found =
      let h : Held = held kept pending in
      let w : Walk = walk_at kept pending place in
      ap (λ (m : Held × Step). after_step c (45 ∷ 45 ∷ id) w m.0 m.1) (other_long c place id h named
      ∙ ap (λ (o : Option Rule). after_flag c idle (45 ∷ 45 ∷ id) (long_met c o None h).0 (long_met c o None h).1) found)

  pub option_text : (rows : List Row) (place : ℕ) (id text : Text) → arg_by_id c id ≡ Some (built_option id) → is_plain text ≡ true
      → walked c [] (waiting_for rows id place) text ≡ walk_at rows (Some (id, text ∷ [])) place
  unfolding walked
  option_text rows place id text own plain =
      let h : Held = held rows (Some (id, [])) in
      let w : Walk = waiting_for rows id place in
      let last : ◌≡◌ {A = Held × Step} ((option_word (Some (built_option id)) id text h).0, next (option_word (Some (built_option id)) id text h).1)
      (held rows (Some (id, text ∷ [])), next idle) = rw (same_text id) refl in
      ap (λ (m : Held × Step). after_step c text w m.0 m.1) (other_plain c (option id) place text h plain
      ∙ ap (λ (o : Option Rule). ((option_word o id text h).0, next (option_word o id text h).1)) own ∙ last)

  pub option_turned : (kept : List Row) (pending : Option (Text × List Text)) (place : ℕ) (id : Text)
      → is_long_name id ≡ true → arg_by_long c id ≡ Some (built_option id) → settle_fault c s.args_override_self (held kept pending) ≡ []
      → turn_fault s [] (walk_at kept pending place) (45 ∷ 45 ∷ id) ≡ []
  option_turned kept pending place id named found passes =
      let h : Held = held kept pending in
      ap₂ or_else (other_long-fault s id h named ∙ ap (λ (o : Option Rule). long_fault c s.args_override_self o None h) found ∙ passes)
      (ap (λ (m : Held × Step). step_fault s place m.0 m.1) (other_long c place id h named
      ∙ ap (λ (o : Option Rule). after_flag c idle (45 ∷ 45 ∷ id) (long_met c o None h).0 (long_met c o None h).1) found))

  pub text_turned : (rows : List Row) (place : ℕ) (id text : Text) → is_plain text ≡ true → turn_fault s [] (waiting_for rows id place) text ≡ []
  text_turned rows place id text plain =
      let h : Held = held rows (Some (id, [])) in
      ap₂ or_else (other_plain-fault s text h plain)
      (ap (λ (m : Held × Step). step_fault s place m.0 m.1) (other_plain c (option id) place text h plain))

  -- `--name` of a flag
  pub flag_walked : (kept : List Row) (pending : Option (Text × List Text)) (place : ℕ) (id : Text)
      → is_long_name id ≡ true → arg_by_long c id ≡ Some (built_flag id) → has_row id (settled_rows c pending kept) ≡ false
      → walked c [] (walk_at kept pending place) (45 ∷ 45 ∷ id)
      ≡ walk_at (settled_rows c pending kept ++ text_row id (codes "true") CommandLine ∷ []) None place
  unfolding walked
  flag_walked kept pending place id named found none =
      let h : Held = held kept pending in
      let w : Walk = walk_at kept pending place in
      ap (λ (m : Held × Step). after_step c (45 ∷ 45 ∷ id) w m.0 m.1) (other_long c place id h named
      ∙ ap (λ (o : Option Rule). after_flag c idle (45 ∷ 45 ∷ id) (long_met c o None h).0 (long_met c o None h).1) found)
      ∙ ap (λ (rows : List Row). walk_at rows None place) (with_text id (codes "true") (settled_rows c pending kept) none)

  pub flag_turned : (kept : List Row) (pending : Option (Text × List Text)) (place : ℕ) (id : Text)
      → is_long_name id ≡ true → arg_by_long c id ≡ Some (built_flag id) → has_row id (settled_rows c pending kept) ≡ false
      → settle_fault c s.args_override_self (held kept pending) ≡ [] → turn_fault s [] (walk_at kept pending place) (45 ∷ 45 ∷ id) ≡ []
  flag_turned kept pending place id named found none passes =
      let h : Held = held kept pending in
      let used : use_fault s.args_override_self (built_flag id) [] (settled_rows c pending kept) ≡ [] = rw none refl in
      ap₂ or_else (other_long-fault s id h named ∙ ap (λ (o : Option Rule). long_fault c s.args_override_self o None h) found ∙ ap₂ or_else passes used)
      (ap (λ (m : Held × Step). step_fault s place m.0 m.1) (other_long c place id h named
      ∙ ap (λ (o : Option Rule). after_flag c idle (45 ∷ 45 ∷ id) (long_met c o None h).0 (long_met c o None h).1) found))
