-- What a text declares is declared by the text that is written of it.
use Rattle.std.proofs.Common.{◌≡◌, ◌<◌, ◌+◌, ◌&&◌, ℕ, Bool, true, false, cond, ltb, refl, sym, ap, subst, ◌∙◌, arith, List, [], ◌∷◌, ◌++◌, length, map, append_assoc, append-nil, length-append, Some, None, Result, Ok, Err}
use Rattle.std.specs.Prelude.{codes, not, bytes_eq, nat_lt}
use Rattle.std.specs.Fmt.{decimal}
use Rattle.std.specs.List.{AllByRecursion, flat_map, join_with_byte, list_all, slice_split}
use Rattle.std.proofs.lemmas.Bool.{ltb-true, lt-ltb, ne_eqb}
use Rattle.tr_lines.specs.Lines.{is_feed, is_printable}
use Rattle.tr_lines.specs.Words.{is_comment, is_skipped, words_of}
use Rattle.tr_terms.specs.Names.{is_letter}
use Rattle.tr_terms.proofs.BoolLemmas.{both}
use Rattle.tr_events.specs.declared.faults.EventFault.TheVariants.{EventTaken, TooMany}
use Rattle.tr_events.specs.declared.faults.LineFault.{LineFault}
use Rattle.tr_events.specs.declared.layouts.TheConstants.{MOST_EVENTS}
use Rattle.tr_events.specs.Declarations.{AreDeclared, AreDeclaredEvents, IsDeclaration, IsWord, word_of, words_for}
use Rattle.tr_events.specs.Events.{Declarations, declarations, nothing, Event}
use Rattle.tr_events.specs.Lines.{Declared, added, after_line, after_lines, after_words, and_lines, begins_with_digit, env_in, event_in, given, is_env, is_event_name, is_taken, placed, with_env, with_events, words_in}
use Rattle.tr_events.specs.Numbers.{is_digit}
use Rattle.tr_events.specs.Variables.{Variable}
use Rattle.tr_events.specs.Words.{declarations_text, env_line, event_line, field_word}
use Rattle.tr_events.proofs.BackLemmas.{event_back, ok_is}
use Rattle.tr_events.proofs.EnvLemmas.{env_line_for, env_lines_written, given_variables, if_not, not_not, written_env}
use Rattle.tr_events.proofs.NumberLemmas.{digits_written}
use Rattle.tr_events.proofs.OrderLemmas.{free_last, placed_declared, placed_last, rise_last}
use Rattle.tr_events.proofs.SplitLemmas.{joined, line_is_printed, line_split, words_are, words_back}

-- ---- what a line declares

declaration : (words : List (List ℕ)) (e : Event) → event_in words ≡ Ok e → AllByRecursion IsWord words → IsDeclaration e
declaration words e is all =
    let said = event_back words e is in
    record {
      declares = ap event_in said.are ∙ is;
      words = subst (AllByRecursion IsWord) (sym said.are) all;
    }

added_events : (events more : List Event) (words : List (List ℕ)) → AreDeclaredEvents events → AllByRecursion IsWord words
    → added events (event_in words) ≡ Ok more → AreDeclaredEvents more
added_events events more words all each is = go (event_in words) refl is
  where
    go : (r : Declared Event) → event_in words ≡ r → added events r ≡ Ok more → AreDeclaredEvents more
    go (Err fault) a is = absurd cc
    go (Ok e) a is =
        let free = if_not (is_taken e events) _ EventTaken more is in
        let few = if_not (not (ltb (length events) MOST_EVENTS)) (Ok (placed e events)) TooMany more free.1 in
        let said = event_back words e a in
        let room = ltb-true (length events) MOST_EVENTS (not_not _ few.0) in
        subst AreDeclaredEvents (ok_is (placed e events) more _ refl few.1)
        (placed_declared e events all (declaration words e a each) said.above said.apart free.0 (omega (arith, room)))

-- one more event, or one more variable
with_event : (d more : Declarations) (words : List (List ℕ)) → AreDeclared d → AllByRecursion IsWord words
    → with_events d (added d.events (event_in words)) ≡ Ok more → AreDeclared more
with_event d more words all each is = go (added d.events (event_in words)) refl is
  where
    go : (r : Declared (List Event)) → added d.events (event_in words) ≡ r → with_events d r ≡ Ok more → AreDeclared more
    go (Err fault) a is = absurd cc
    go (Ok events) a is =
        subst AreDeclared (ok_is (declarations d.env events) more _ refl is)
        (record { env = all.env; events = added_events d.events events words all.events each a })

with_variable : (d more : Declarations) (words : List (List ℕ)) → AreDeclared d → is_env words ≡ true → AllByRecursion IsWord words
    → with_env d (given d.env (env_in words)) ≡ Ok more → AreDeclared more
with_variable d more words all kind each is = go (given d.env (env_in words)) refl is
  where
    go : (r : Declared (List Variable)) → given d.env (env_in words) ≡ r → with_env d r ≡ Ok more → AreDeclared more
    go (Err fault) a is = absurd cc
    go (Ok env) a is =
        subst AreDeclared (ok_is (declarations env d.events) more _ refl is)
        (record { env = given_variables d.env env words all.env kind each a; events = all.events })

line_declared : (d more : Declarations) (line : List ℕ) → AreDeclared d → after_line d line ≡ Ok more → AreDeclared more
line_declared d more line all is = go (list_all is_printable line) refl is
  where
    words : List (List ℕ)
    words = words_of line

    kind : (t : Bool) → is_env words ≡ t → list_all is_printable line ≡ true
        → cond t (with_env d (given d.env (env_in words))) (with_events d (added d.events (event_in words))) ≡ Ok more → AreDeclared more
    kind true k printed is = with_variable d more words all k (words_are line printed) is
    kind false k printed is = with_event d more words all (words_are line printed) is

    by : (t : Bool) → list_all is_printable line ≡ true
        → cond t (Ok d) (cond (is_env words) (with_env d (given d.env (env_in words))) (with_events d (added d.events (event_in words)))) ≡ Ok more
        → AreDeclared more
    by true printed is = subst AreDeclared (ok_is d more _ refl is) all
    by false printed is = kind (is_env words) refl printed is

    go : (t : Bool) → list_all is_printable line ≡ t → after_words d (cond t (Some (words_of line)) None) ≡ Ok more → AreDeclared more
    go true printed is = by (is_skipped words) printed is
    go false printed is = absurd cc

ok_same : (x y : Declarations) (r : Result Declarations LineFault) → r ≡ Ok x → r ≡ Ok y → x ≡ y
ok_same x y r a b = cc

lines_declared : (lines : List (List ℕ)) (number : ℕ) (d more : Declarations) → AreDeclared d
    → after_lines number d lines ≡ Ok more → AreDeclared more
lines_declared [] number d more all is = subst AreDeclared (ok_same d more _ refl is) all
lines_declared (line ∷ lines) number d more all is =
    go (λ next known. lines_declared lines (number + 1) next more known) (after_line d line) refl is
  where
    go : ((next : Declarations) → AreDeclared next → after_lines (number + 1) next lines ≡ Ok more → AreDeclared more)
        → (r : Declared Declarations) → after_line d line ≡ r
        → and_lines number r (λ next. after_lines (number + 1) next lines) ≡ Ok more → AreDeclared more
    go rest (Err fault) a is = absurd cc
    go rest (Ok next) a is = rest next (line_declared d next line all a) is

pub none_declared : AreDeclared nothing
none_declared = record {
  env = record { few = omega arith; names = refl; each = tt };
  events = record {
    are = record { few = omega arith; rise = refl; apart = refl };
    names = refl;
    each = tt;
  };
}

pub after_declared : (lines : List (List ℕ)) (d : Declarations) → after_lines 1 nothing lines ≡ Ok d → AreDeclared d
after_declared lines d is = lines_declared lines 1 nothing d none_declared is

-- ---- what is written of declared events

-- the line of an event, without its newline
abbrev pub line_for : Event → List ℕ
line_for e = join_with_byte 32 (words_for e)

pub line_is : (e : Event) → event_line e ≡ line_for e ++ (10 ∷ [])
line_is e =
    append_assoc e.name (32 ∷ decimal e.id) (flat_map field_word e.fields ++ (10 ∷ []))
    ∙ sym (append_assoc e.name (32 ∷ (decimal e.id ++ flat_map field_word e.fields)) (10 ∷ [])
    ∙ ap (λ (t : List ℕ). e.name ++ (32 ∷ t)) (append_assoc (decimal e.id) (flat_map field_word e.fields) (10 ∷ [])))
    ∙ ap (λ (t : List ℕ). (e.name ++ (32 ∷ t)) ++ (10 ∷ [])) (sym (joined 32 word_of (decimal e.id) e.fields))

no_comment : (name : List ℕ) → is_event_name name ≡ true → is_comment name ≡ false
no_comment [] e = absurd cc
no_comment (b ∷ name) e =
    let letter = (both _ _ (both _ _ e).0).0 in
    ne_eqb b 35 (λ same. absurd (true_false letter (ap is_letter same)))
  where
    true_false : {t : Bool} → t ≡ true → t ≡ false → ⊥
    true_false a b = absurd cc

-- an id begins with a digit
id_first : (id : List ℕ) → nat_lt 0 (length id) ≡ true → list_all is_digit id ≡ true → begins_with_digit id ≡ true
id_first [] some digits = absurd cc
id_first (b ∷ id) some digits = (both _ _ digits).0

no_env : (e : Event) → IsDeclaration e → is_env (words_for e) ≡ false
no_env e is =
    let said = event_back (words_for e) e is.declares in
    ap (λ (t : Bool). bytes_eq e.name (codes "env") && not t)
    (id_first (decimal e.id) is.words.1.0.0 (digits_written e.id (omega (arith, said.below))))
    ∙ and_no (bytes_eq e.name (codes "env"))
  where
    and_no : (t : Bool) → (t && false) ≡ false
    and_no true = refl
    and_no false = refl

printed_line : (env : List Variable) (events : List Event) (e : Event) (more : List Event) → AreDeclaredEvents (events ++ (e ∷ more))
    → IsDeclaration e → after_line (declarations env events) (line_for e) ≡ Ok (declarations env (events ++ (e ∷ [])))
printed_line env events e more all is =
    let d = declarations env events in
    let said = event_back (words_for e) e is.declares in
    let below = (rise_last 0 events e more all.are.rise).1 in
    let free = free_last e events more below all.names in
    let words : words_in (line_for e) ≡ Some (words_for e) =
    ap (λ (t : Bool). cond t (Some (words_of (line_for e))) None) (line_is_printed e.name (decimal e.id ∷ map word_of e.fields) is.words)
    ∙ ap (λ (ws : List (List ℕ)). Some ws) (words_back e.name (decimal e.id ∷ map word_of e.fields) is.words) in
    let room : length events < MOST_EVENTS = let few = all.are.few in let n = length-append events (e ∷ more) in omega (arith, few, n) in
    let other = with_env d (given d.env (env_in (words_for e))) in
    ap (after_words d) words
    ∙ ap (λ (t : Bool). cond t (Ok d) (cond (is_env (words_for e)) other (with_events d (added events (event_in (words_for e)))))) (no_comment e.name said.name)
    ∙ ap (λ (t : Bool). cond t other (with_events d (added events (event_in (words_for e))))) (no_env e is)
    ∙ ap (λ (r : Declared Event). with_events d (added events r)) is.declares
    ∙ ap (λ (t : Bool). with_events d (cond t (Err EventTaken) (cond (not (ltb (length events) MOST_EVENTS)) (Err TooMany) (Ok (placed e events))))) free
    ∙ ap (λ (t : Bool). with_events d (cond (not t) (Err TooMany) (Ok (placed e events)))) (lt-ltb _ _ room)
    ∙ ap (λ (l : List Event). Ok (declarations env l)) (placed_last e events below)

-- it begins with a letter
pub record BeginsWithLetter (line : List ℕ) : Type 0 where
  pub letter : ℕ
  pub rest : List ℕ
  pub is : line ≡ letter ∷ rest
  pub test : is_letter letter ≡ true

begins : (name rest : List ℕ) → is_event_name name ≡ true → BeginsWithLetter (name ++ rest)
begins [] rest e = absurd cc
begins (b ∷ name) rest e = record { letter = b; rest = name ++ rest; is = refl; test = (both _ _ (both _ _ e).0).0 }

pub line_begins : (e : Event) → IsDeclaration e → BeginsWithLetter (line_for e)
line_begins e is = begins e.name (32 ∷ join_with_byte 32 (decimal e.id ∷ map word_of e.fields)) (event_back (words_for e) e is.declares).name

-- the lines that are written of declared events, and then others, declare them first
written_lines : (more : List Event) (number : ℕ) (env : List Variable) (events : List Event) (lines : List (List ℕ))
    → AreDeclaredEvents (events ++ more) → AllByRecursion IsDeclaration more
    → after_lines number (declarations env events) (map line_for more ++ lines)
    ≡ after_lines (number + length more) (declarations env (events ++ more)) lines
written_lines [] number env events lines all each =
    ap (λ (n : ℕ). after_lines n (declarations env events) lines) (omega arith)
    ∙ ap (λ (l : List Event). after_lines (number + 0) (declarations env l) lines) (sym (append-nil events))
written_lines (e ∷ more) number env events lines all each =
    let next = written_lines more (number + 1) env (events ++ (e ∷ [])) lines (subst AreDeclaredEvents (sym (append_assoc events (e ∷ []) more)) all) each.1 in
    ap (λ (r : Declared Declarations). and_lines number r (λ d. after_lines (number + 1) d (map line_for more ++ lines)))
    (printed_line env events e more all each.0)
    ∙ next
    ∙ ap (λ (l : List Event). after_lines (number + 1 + length more) (declarations env l) lines) (append_assoc events (e ∷ []) more)
    ∙ ap (λ (n : ℕ). after_lines n (declarations env (events ++ (e ∷ more))) lines) (omega arith)

-- the lines of what is written of declared events, and of what follows
event_lines_written : (events : List Event) (rest : List ℕ) → AllByRecursion IsDeclaration events
    → slice_split is_feed (flat_map event_line events ++ rest) ≡ map line_for events ++ slice_split is_feed rest
event_lines_written [] rest each = refl
event_lines_written (e ∷ events) rest each =
    ap (slice_split is_feed) (append_assoc (event_line e) (flat_map event_line events) rest
    ∙ ap (λ (t : List ℕ). t ++ (flat_map event_line events ++ rest)) (line_is e)
    ∙ append_assoc (line_for e) (10 ∷ []) (flat_map event_line events ++ rest))
    ∙ line_split (line_for e) (flat_map event_line events ++ rest) (line_is_printed e.name (decimal e.id ∷ map word_of e.fields) each.0.words)
    ∙ ap (λ (l : List (List ℕ)). line_for e ∷ l) (event_lines_written events rest each.1)

-- ---- what is written of variables and events

-- the lines of both, without their newlines
abbrev pub lines_for : Declarations → List (List ℕ)
lines_for d = map env_line_for d.env ++ map line_for d.events

pub lines_written : (d : Declarations) (rest : List ℕ) → AreDeclared d
    → slice_split is_feed (declarations_text d ++ rest) ≡ lines_for d ++ slice_split is_feed rest
lines_written d rest all =
    ap (slice_split is_feed) (append_assoc (flat_map env_line d.env) (flat_map event_line d.events) rest)
    ∙ env_lines_written d.env (flat_map event_line d.events ++ rest) all.env.each
    ∙ ap (λ (l : List (List ℕ)). map env_line_for d.env ++ l) (event_lines_written d.events rest all.events.each)
    ∙ sym (append_assoc (map env_line_for d.env) (map line_for d.events) (slice_split is_feed rest))

-- they declare it, before other lines
pub written_first : (d : Declarations) (lines : List (List ℕ)) → AreDeclared d
    → after_lines 1 nothing (lines_for d ++ lines) ≡ after_lines (1 + length d.env + length d.events) d lines
written_first d lines all =
    ap (after_lines 1 nothing) (append_assoc (map env_line_for d.env) (map line_for d.events) lines)
    ∙ written_env d.env 1 [] [] (map line_for d.events ++ lines) all.env all.env.each
    ∙ written_lines d.events (1 + length d.env) d.env [] lines all.events all.events.each

pub declared_again : (d : Declarations) → AreDeclared d → after_lines 1 nothing (slice_split is_feed (declarations_text d)) ≡ Ok d
declared_again d all =
    ap (λ (t : List ℕ). after_lines 1 nothing (slice_split is_feed t)) (sym (append-nil (declarations_text d)))
    ∙ ap (after_lines 1 nothing) (lines_written d [] all)
    ∙ written_first d (slice_split is_feed []) all
