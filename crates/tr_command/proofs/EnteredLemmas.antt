-- What clap enters by an ordinary line, and that it enters nothing by a line that it refuses.
use Rattle.std.proofs.Common.{◌≡◌, ◌∙◌, ◌||◌, Bool, true, false, refl, sym, ap, ap₂, cond, codes, List, [], ◌∷◌, ◌++◌, Option, Some, None, map, subst, option_and_then, length, drop, get_or, arith, ◌≤◌}
use Rattle.std.specs.Prelude.{find, option_map}
use Rattle.std.specs.Borrow.{Bor}
use Rattle.std.specs.Option.{option_map_or, option_or}
use Rattle.std.specs.Str.{bytes_eq}
use Rattle.std.proofs.lemmas.List.Folds.{find-append}
use Rattle.std.proofs.lemmas.Slice.Eq.{bytes_eq-Decides}
use Rattle.clap.specs.Faults.{built_fault, fault_of, other_fault, positional_fault, step_fault, stray_fault, turn_fault, walk_fault}
use Rattle.clap.specs.Kinds.{Kinds, or_else}
use Rattle.clap.specs.Simple.{App, Shape, built, argument_words, names_of}
use Rattle.clap.specs.Walk.{idle, subcommand_or_other, Held, Names, Row, Rule, Step, Text, answers_to, arg_by_index, nothing_held, value, walk_from}
use Rattle.clap.specs.Words.{subcommand_of}
use Rattle.tr_command.specs.Asked.{Command, command_named, commands, read, read_command}
use Rattle.tr_command.specs.Language.{asked_from, asked_of, entered_by, is_free_of_faults, script_app}
use Rattle.tr_command.specs.Ordinary.{IsRefused, IsTaken, is_plain, is_well_named, leaf}
use Rattle.tr_command.proofs.DispatchLemmas.{found-same, named-reads}
use Rattle.tr_command.proofs.RefusedLemmas.{fault-stays}
use Rattle.tr_command.proofs.StepLemmas.{other_plain, other_plain-fault}

abbrev passes : Command → Bool
passes c = true

each-well_named : map (λ (c : Command). is_well_named c.rules) commands ≡ map passes commands
unfolding commands
each-well_named = refl

pub command-well_named : (word : Text) (c : Command) → command_named word ≡ Some c → is_well_named c.rules ≡ true
command-well_named word c is = (found-same (λ (d : Command). bytes_eq d.name word) (λ d. is_well_named d.rules) passes commands c is each-well_named).0

-- ---- a word that is no command, and no option

abbrev labelled : Command → Text × List Text
labelled c = (c.name, [])

none-answers : (word : Text) (cs : List Command) → find (λ c. bytes_eq c.name word) cs ≡ None → find (answers_to word) (map labelled cs) ≡ None
none-answers word [] none = refl
none-answers word (c ∷ cs) none = go (bytes_eq c.name word) refl none (none-answers word cs)
  where
    go : (b : Bool) → bytes_eq c.name word ≡ b → cond b (Some c) (find (λ d. bytes_eq d.name word) cs) ≡ None
        → (find (λ d. bytes_eq d.name word) cs ≡ None → find (answers_to word) (map labelled cs) ≡ None)
        → find (answers_to word) (map labelled (c ∷ cs)) ≡ None
    go true is none rest = cc
    go false is none rest = rw is (rest none)

abbrev help_label : Text × List Text
help_label = (codes "help", [])

module _ (s : Shape) (word : Text) (plain : is_plain word ≡ true) (helps : s.disable_help_subcommand ≡ false) (no_places : arg_by_index s.rules 1 ≡ None) where
  abbrev h : Held
  h = nothing_held

  stray-fault : is_free_of_faults (stray_fault s) ≡ false
  stray-fault = go s.is_leaf refl
    where
      go : (b : Bool) → s.is_leaf ≡ b → is_free_of_faults (stray_fault s) ≡ false
      go true is = rw is refl
      go false is = rw is refl

  other-fault : is_free_of_faults (or_else (other_fault s None word h) (step_fault s 1 h value)) ≡ false
  other-fault = ap₂ (λ (k : Kinds) (o : Option Rule). is_free_of_faults (or_else k (option_map_or (λ a. positional_fault s.rules s.args_override_self a h) o (stray_fault s))))
      (other_plain-fault s word h plain) no_places ∙ stray-fault

  abbrev turn : Option Text → Bool
  turn o = is_free_of_faults (or_else (other_fault s o word h)
      (step_fault s 1 (subcommand_or_other s.rules o idle 1 word h).0 (subcommand_or_other s.rules o idle 1 word h).1))

  -- and so is `help`
  turn-help : (b : Bool) → turn (option_map (λ (l : Text × List Text). l.0) (cond (b || false) (Some help_label) None)) ≡ false
  turn-help true = rw helps refl
  turn-help false = ap (λ (m : Held × Step). is_free_of_faults (or_else (other_fault s None word h) (step_fault s 1 m.0 m.1))) (other_plain s.rules idle 1 word h plain)
      ∙ other-fault

  word-fault : (names : Names) → find (answers_to word) names ≡ None
      → is_free_of_faults (turn_fault s (names ++ help_label ∷ []) (walk_from h) word) ≡ false
  word-fault names none =
      let met : find (answers_to word) (names ++ help_label ∷ []) ≡ cond (bytes_eq (codes "help") word || false) (Some help_label) None =
      find-append (answers_to word) names (help_label ∷ []) ∙ ap (λ o. option_or o (find (answers_to word) (help_label ∷ []))) none in
      ap (λ (o : Option (Text × List Text)). turn (option_map (λ (l : Text × List Text). l.0) o)) met ∙ turn-help (bytes_eq (codes "help") word)

whole-helps : (built script_app).top.disable_help_subcommand ≡ false
unfolding commands
whole-helps = refl

whole-no_places : arg_by_index (built script_app).top.rules 1 ≡ None
unfolding commands
whole-no_places = refl

whole-names : names_of (built script_app) ≡ map labelled commands ++ help_label ∷ []
unfolding commands
whole-names = refl

whole-words : (program : Text) (words : List Text) → argument_words script_app (program ∷ words) ≡ words
unfolding commands
whole-words program words = refl

built-fault : (a : App) (word : Text) (words : List Text) → is_free_of_faults (turn_fault a.top (names_of a) (walk_from nothing_held) word) ≡ false
    → is_free_of_faults (built_fault a nothing_held (word ∷ words)) ≡ false
unfolding walk_fault
built-fault a word words is = fault-stays _ _ (fault-stays _ _ is)

-- such a line asks for nothing
pub asked_of-stray : (program word : Text) (words : List Text) → command_named word ≡ None → is_plain word ≡ true → asked_of (program ∷ word ∷ words) ≡ None
unfolding asked_from
asked_of-stray program word words none plain =
    let turned : is_free_of_faults (turn_fault (built script_app).top (names_of (built script_app)) (walk_from nothing_held) word) ≡ false =
    ap (λ (names : Names). is_free_of_faults (turn_fault (built script_app).top names (walk_from nothing_held) word)) whole-names
    ∙ word-fault (built script_app).top word plain whole-helps whole-no_places (map labelled commands) (none-answers word commands none) in
    let faulty : is_free_of_faults (fault_of script_app (program ∷ word ∷ words)) ≡ false =
    ap (λ (ws : List Text). is_free_of_faults (built_fault (built script_app) nothing_held ws)) (whole-words program (word ∷ words))
    ∙ built-fault (built script_app) word words turned in
    ap (λ (b : Bool). option_and_then (λ (p : Text × List Row). read_command p.0 p.1) (cond b (subcommand_of script_app (program ∷ word ∷ words)) None)) faulty

-- an ordinary line asks for what its rows say
pub asked_of-taken : (program word : Text) (words : List Text) (c : Command) (rows : List Row) → command_named word ≡ Some c
    → IsTaken (leaf c.name c.rules) words rows → read c.reader rows ≡ asked_of (program ∷ word ∷ words)
unfolding asked_from
asked_of-taken program word words c rows is taken =
    let reads = named-reads program word words c is in
    let same : c.name ≡ word = (bytes_eq-Decides c.name word).0 (found-same (λ (d : Command). bytes_eq d.name word) passes passes commands c is refl).1 in
    let entered : entered_by script_app (program ∷ word ∷ words) ≡ Some (c.name, rows) =
    ap₂ (λ (k : Kinds) (e : Option (Text × List Row)). cond (is_free_of_faults k) e None)
    (reads.0 ∙ ap (λ (k : Kinds). or_else k []) taken.0) (reads.1 ∙ ap (λ (rs : List Row). Some (c.name, rs)) taken.1) in
    sym (ap (option_and_then (λ (p : Text × List Row). read_command p.0 p.1)) entered
    ∙ ap (λ (w : Text). option_and_then (λ (d : Command). read d.reader rows) (command_named w)) same
    ∙ ap (λ (o : Option Command). option_and_then (λ (d : Command). read d.reader rows) o) is)

-- and one that is refused asks for nothing
pub asked_of-refused : (program word : Text) (words : List Text) (c : Command) → command_named word ≡ Some c → IsRefused (leaf c.name c.rules) words
    → asked_of (program ∷ word ∷ words) ≡ None
unfolding asked_from
asked_of-refused program word words c is refused =
    let faulty : is_free_of_faults (fault_of script_app (program ∷ word ∷ words)) ≡ false =
    ap is_free_of_faults (named-reads program word words c is).0 ∙ fault-stays _ _ refused in
    ap (λ (b : Bool). option_and_then (λ (p : Text × List Row). read_command p.0 p.1) (cond b (subcommand_of script_app (program ∷ word ∷ words)) None)) faulty

-- the same, as the words are read
pub asked-ordinary : (words rest : List (Bor Text)) (e : Bor Text) (c : Command) (rows : List Row) → 2 ≤ length words → rest ≡ drop 2 words
    → command_named (get_or words 1 e).now ≡ Some c → IsTaken (leaf c.name c.rules) (map (λ w. w.now) rest) rows
    → read c.reader rows ≡ asked_of (map (λ w. w.now) words)
asked-ordinary [] rest e c rows some cut is taken = absurd (omega arith)
asked-ordinary (p ∷ []) rest e c rows some cut is taken = absurd (omega arith)
asked-ordinary (p ∷ w ∷ words) rest e c rows some cut is taken =
    asked_of-taken p.now w.now (map (λ x. x.now) words) c rows is (subst (λ xs. IsTaken (leaf c.name c.rules) (map (λ x. x.now) xs) rows) cut taken)

pub asked-stray : (words : List (Bor Text)) (e : Bor Text) → 2 ≤ length words → command_named (get_or words 1 e).now ≡ None
    → is_plain (get_or words 1 e).now ≡ true → None ≡ asked_of (map (λ w. w.now) words)
asked-stray [] e some none plain = absurd (omega arith)
asked-stray (p ∷ []) e some none plain = absurd (omega arith)
asked-stray (p ∷ w ∷ words) e some none plain = sym (asked_of-stray p.now w.now (map (λ x. x.now) words) none plain)

pub asked-refused : (words rest : List (Bor Text)) (e : Bor Text) (c : Command) → 2 ≤ length words → rest ≡ drop 2 words
    → command_named (get_or words 1 e).now ≡ Some c → IsRefused (leaf c.name c.rules) (map (λ w. w.now) rest)
    → None ≡ asked_of (map (λ w. w.now) words)
asked-refused [] rest e c some cut is refused = absurd (omega arith)
asked-refused (p ∷ []) rest e c some cut is refused = absurd (omega arith)
asked-refused (p ∷ w ∷ words) rest e c some cut is refused =
    sym (asked_of-refused p.now w.now (map (λ x. x.now) words) c is (subst (λ xs. IsRefused (leaf c.name c.rules) (map (λ x. x.now) xs)) cut refused))
