-- Variables that a text declares, and the lines that are written of them.
use Rattle.std.proofs.Common.{◌≡◌, ◌<◌, ◌+◌, ◌&&◌, ℕ, Bool, true, false, cond, ltb, refl, sym, ap, ap₂, subst, ◌∙◌, arith, List, [], ◌∷◌, ◌++◌, length, map, append_assoc, append-nil, length-append, Some, None, Ok, Err}
use Rattle.std.specs.Prelude.{codes, not, ◌||◌, nat_eq}
use Rattle.std.specs.Cmp.Lexicographic.{pointwise}
use Rattle.std.specs.List.{AllByRecursion, flat_map, join_with_byte, slice_split}
use Rattle.std.proofs.lemmas.Bool.{ltb-true, lt-ltb}
use Rattle.std.proofs.lemmas.Grind.{common_steps}
use Rattle.std.proofs.lemmas.Slice.Eq.{bytes_eq-Decides}
use Rattle.tr_lines.specs.Lines.{is_feed}
use Rattle.tr_lines.specs.Words.{words_of}
use Rattle.tr_terms.specs.Names.{is_letter}
use Rattle.tr_terms.proofs.BoolLemmas.{both}
use Rattle.tr_events.specs.declared.faults.EventFault.{EventFault}
use Rattle.tr_events.specs.declared.faults.EventFault.TheVariants.{BadVariable, BadValue, VariableTaken, TooManyVariables}
use Rattle.tr_events.specs.declared.variables.TheConstants.{MOST_VARIABLES}
use Rattle.tr_events.specs.Declarations.{AreVariables, IsVariable, IsWord, env_words, variable_names}
use Rattle.tr_events.specs.Events.{Declarations, declarations, Event}
use Rattle.tr_events.specs.Lines.{Declared, after_line, after_lines, after_words, and_lines, are_names_apart, begins_with_digit, env_in, added, event_in, given, is_among_names, is_env, is_given, variable_of, with_env, with_events, words_in}
use Rattle.tr_events.specs.Numbers.{is_digit}
use Rattle.tr_events.specs.Variables.{Variable, variable, is_variable_name, may_be}
use Rattle.tr_events.specs.Words.{env_line}
use Rattle.tr_events.proofs.BackLemmas.{ok_is}
use Rattle.tr_events.proofs.SplitLemmas.{line_is_printed, line_split, words_back}

-- ---- tests

pub if_not : {A : Type 0} (test : Bool) (r : Declared A) (fault : EventFault) (y : A) → cond test (Err fault) r ≡ Ok y → (test ≡ false) × (r ≡ Ok y)
if_not true r fault y e = absurd cc
if_not false r fault y e = (refl, e)

pub not_not : (b : Bool) → not b ≡ false → b ≡ true
not_not true e = refl
not_not false e = absurd cc

not_true : (b : Bool) → not b ≡ true → b ≡ false
not_true true e = absurd cc
not_true false e = refl

not_false : (b : Bool) → b ≡ false → not b ≡ true
not_false b e = rw e refl

neither : (a b : Bool) → (a || b) ≡ false → (a ≡ false) × (b ≡ false)
neither true b e = absurd cc
neither false b e = (refl, e)

nor : (a b : Bool) → a ≡ false → b ≡ false → (a || b) ≡ false
nor a b e f = rw (e, f) refl

two : (a b : Bool) → a ≡ true → b ≡ true → (a && b) ≡ true
two a b e f = rw (e, f) refl

-- ---- what a line gives

-- the tests that a variable passes
pub passes : (name value : List ℕ) (v : Variable) → variable_of name value ≡ Ok v
    → (is_variable_name name ≡ true) × (may_be name value ≡ true) × (variable name value ≡ v)
passes name value v is =
    let named = if_not (not (is_variable_name name)) _ BadVariable v is in
    let valued = if_not (not (may_be name value)) (Ok (variable name value)) BadValue v named.1 in
    (not_not _ named.0, not_not _ valued.0, ok_is (variable name value) v _ refl valued.1)

-- the words of a value, which has some
value_words : (name : List ℕ) (words : List (List ℕ)) → may_be name (join_with_byte 32 words) ≡ true → AllByRecursion IsWord words
    → words_of (join_with_byte 32 words) ≡ words
value_words name [] may all = absurd cc
value_words name (word ∷ words) may all = words_back word words all

pub env_back : (words : List (List ℕ)) (v : Variable) → is_env words ≡ true → AllByRecursion IsWord words → env_in words ≡ Ok v
    → env_words v ≡ words
env_back [] v env all is = absurd cc
env_back (word ∷ []) v env all is = absurd cc
env_back (word ∷ name ∷ words) v env all is =
    let made = passes name (join_with_byte 32 words) v is in
    let first : word ≡ codes "env" = (bytes_eq-Decides word (codes "env")).0 (both _ _ env).0 in
    ap env_words (sym made.2)
    ∙ ap₂ (λ (w : List ℕ) (ws : List (List ℕ)). w ∷ name ∷ ws) (sym first) (value_words name words made.1 all.1.1)

pub variable_is : (words : List (List ℕ)) (v : Variable) → is_env words ≡ true → AllByRecursion IsWord words → env_in words ≡ Ok v
    → IsVariable v
variable_is words v env all is =
    let back = env_back words v env all is in
    record {
      gives = ap env_in back ∙ is;
      words = subst (AllByRecursion IsWord) (sym back) all;
    }

-- ---- one more variable

names_joined : (env more : List Variable) → variable_names (env ++ more) ≡ variable_names env ++ variable_names more
names_joined [] more = refl
names_joined (v ∷ env) more = ap (λ (l : List (List ℕ)). v.name ∷ l) (names_joined env more)

among_pushed : (name : List ℕ) (env : List Variable) (v : Variable) → is_among_names (variable_names env) name ≡ false
    → pointwise nat_eq name v.name ≡ false → is_among_names (variable_names (env ++ (v ∷ []))) name ≡ false
among_pushed name [] v free other = nor _ _ other refl
among_pushed name (o ∷ env) v free other = nor _ _ (neither _ _ free).0 (among_pushed name env v (neither _ _ free).1 other)

names_pushed : (env : List Variable) (v : Variable) → is_given v env ≡ false → are_names_apart (variable_names env) ≡ true
    → are_names_apart (variable_names (env ++ (v ∷ []))) ≡ true
names_pushed [] v free apart = refl
names_pushed (o ∷ env) v free apart =
    two _ _ (not_false _ (among_pushed o.name env v (not_true _ (both _ _ apart).0) (neither _ _ free).0))
    (names_pushed env v (neither _ _ free).1 (both _ _ apart).1)

all_pushed : (P : Variable → Type 0) (env : List Variable) (v : Variable) → AllByRecursion P env → P v → AllByRecursion P (env ++ (v ∷ []))
all_pushed P [] v all is = (is, tt)
all_pushed P (o ∷ env) v all is = (all.0, all_pushed P env v all.1 is)

pushed : (env : List Variable) (v : Variable) → AreVariables env → IsVariable v → is_given v env ≡ false → length env < MOST_VARIABLES
    → AreVariables (env ++ (v ∷ []))
pushed env v all is free room = record {
  few = omega (arith, room, length-append env (v ∷ []));
  names = names_pushed env v free all.names;
  each = all_pushed IsVariable env v all.each is;
}

pub given_variables : (env more : List Variable) (words : List (List ℕ)) → AreVariables env → is_env words ≡ true
    → AllByRecursion IsWord words → given env (env_in words) ≡ Ok more → AreVariables more
given_variables env more words all kind each is = go (env_in words) refl is
  where
    go : (r : Declared Variable) → env_in words ≡ r → given env r ≡ Ok more → AreVariables more
    go (Err fault) a is = absurd cc
    go (Ok v) a is =
        let free = if_not (is_given v env) _ VariableTaken more is in
        let few = if_not (not (ltb (length env) MOST_VARIABLES)) (Ok (env ++ (v ∷ []))) TooManyVariables more free.1 in
        subst AreVariables (ok_is (env ++ (v ∷ [])) more _ refl few.1)
        (pushed env v all (variable_is words v kind each a) free.0 (ltb-true (length env) MOST_VARIABLES (not_not _ few.0)))

-- ---- the line of a variable, without its newline

abbrev pub env_line_for : Variable → List ℕ
env_line_for v = join_with_byte 32 (env_words v)

pub env_line_begins : (v : Variable) → IsVariable v → env_line_for v ≡ codes "env " ++ (v.name ++ (32 ∷ v.value))
env_line_begins v is =
    let made = passes v.name (join_with_byte 32 (words_of v.value)) v is.gives in
    go (words_of v.value) made.1 (ap (λ (u : Variable). u.value) made.2)
  where
    go : (words : List (List ℕ)) → may_be v.name (join_with_byte 32 words) ≡ true → join_with_byte 32 words ≡ v.value
        → join_with_byte 32 (codes "env" ∷ v.name ∷ words) ≡ codes "env " ++ (v.name ++ (32 ∷ v.value))
    go [] may same = absurd cc
    go (word ∷ words) may same = ap (λ (t : List ℕ). codes "env " ++ (v.name ++ (32 ∷ t))) same

env_line_is : (v : Variable) → IsVariable v → env_line v ≡ env_line_for v ++ (10 ∷ [])
env_line_is v is =
    ap (λ (t : List ℕ). codes "env " ++ t) (sym (append_assoc v.name (32 ∷ v.value) (10 ∷ [])))
    ∙ sym (append_assoc (codes "env ") (v.name ++ (32 ∷ v.value)) (10 ∷ []))
    ∙ ap (λ (t : List ℕ). t ++ (10 ∷ [])) (sym (env_line_begins v is))

-- the lines of what is written of variables, and of what follows
pub env_lines_written : (env : List Variable) (rest : List ℕ) → AllByRecursion IsVariable env
    → slice_split is_feed (flat_map env_line env ++ rest) ≡ map env_line_for env ++ slice_split is_feed rest
env_lines_written [] rest each = refl
env_lines_written (v ∷ env) rest each =
    ap (slice_split is_feed) (append_assoc (env_line v) (flat_map env_line env) rest
    ∙ ap (λ (t : List ℕ). t ++ (flat_map env_line env ++ rest)) (env_line_is v each.0)
    ∙ append_assoc (env_line_for v) (10 ∷ []) (flat_map env_line env ++ rest))
    ∙ line_split (env_line_for v) (flat_map env_line env ++ rest) (line_is_printed (codes "env") (v.name ∷ words_of v.value) each.0.words)
    ∙ ap (λ (l : List (List ℕ)). env_line_for v ∷ l) (env_lines_written env rest each.1)

-- ---- a written line gives its variable

no_digit : (b : ℕ) → is_letter b ≡ true → is_digit b ≡ false
no_digit b e = grind (arith, common_steps)

no_id : (name : List ℕ) → is_variable_name name ≡ true → begins_with_digit name ≡ false
no_id [] e = absurd cc
no_id (b ∷ name) e = no_digit b (both _ _ (both _ _ e).0).0

among_last : (name : List ℕ) (names : List (List ℕ)) (last : List ℕ) (more : List (List ℕ))
    → is_among_names (names ++ (last ∷ more)) name ≡ false → pointwise nat_eq name last ≡ false
among_last name [] last more free = (neither _ _ free).0
among_last name (n ∷ names) last more free = among_last name names last more (neither _ _ free).1

free_last : (env : List Variable) (v : Variable) (more : List Variable) → are_names_apart (variable_names (env ++ (v ∷ more))) ≡ true
    → is_given v env ≡ false
free_last [] v more apart = refl
free_last (o ∷ env) v more apart =
    let p = both _ _ apart in
    let names = subst (λ (ns : List (List ℕ)). is_among_names ns o.name ≡ false) (names_joined env (v ∷ more)) (not_true _ p.0) in
    nor _ _ (among_last o.name (variable_names env) v.name (variable_names more) names) (free_last env v more p.1)

printed_variable : (env : List Variable) (v : Variable) (more : List Variable) (events : List Event) → AreVariables (env ++ (v ∷ more))
    → IsVariable v → after_line (declarations env events) (env_line_for v) ≡ Ok (declarations (env ++ (v ∷ [])) events)
printed_variable env v more events all is =
    let d = declarations env events in
    let named = (passes v.name (join_with_byte 32 (words_of v.value)) v is.gives).0 in
    let words : words_in (env_line_for v) ≡ Some (env_words v) =
    ap (λ (t : Bool). cond t (Some (words_of (env_line_for v))) None) (line_is_printed (codes "env") (v.name ∷ words_of v.value) is.words)
    ∙ ap (λ (ws : List (List ℕ)). Some ws) (words_back (codes "env") (v.name ∷ words_of v.value) is.words) in
    let room : length env < MOST_VARIABLES = let few = all.few in let n = length-append env (v ∷ more) in omega (arith, few, n) in
    ap (after_words d) words
    ∙ ap (λ (t : Bool). cond (not t) (with_env d (given env (env_in (env_words v)))) (after_other d)) (no_id v.name named)
    ∙ ap (λ (r : Declared Variable). with_env d (given env r)) is.gives
    ∙ ap (λ (t : Bool). with_env d (cond t (Err VariableTaken) (cond (not (ltb (length env) MOST_VARIABLES)) (Err TooManyVariables) (Ok (env ++ (v ∷ []))))))
    (free_last env v more all.names)
    ∙ ap (λ (t : Bool). with_env d (cond (not t) (Err TooManyVariables) (Ok (env ++ (v ∷ []))))) (lt-ltb _ _ room)
  where
    after_other : Declarations → Declared Declarations
    after_other d = with_events d (added d.events (event_in (env_words v)))

-- the lines that are written of variables, and then others, declare them first
pub written_env : (more : List Variable) (number : ℕ) (env : List Variable) (events : List Event) (lines : List (List ℕ))
    → AreVariables (env ++ more) → AllByRecursion IsVariable more
    → after_lines number (declarations env events) (map env_line_for more ++ lines)
    ≡ after_lines (number + length more) (declarations (env ++ more) events) lines
written_env [] number env events lines all each =
    ap (λ (n : ℕ). after_lines n (declarations env events) lines) (omega arith)
    ∙ ap (λ (l : List Variable). after_lines (number + 0) (declarations l events) lines) (sym (append-nil env))
written_env (v ∷ more) number env events lines all each =
    let next = written_env more (number + 1) (env ++ (v ∷ [])) events lines (subst AreVariables (sym (append_assoc env (v ∷ []) more)) all) each.1 in
    ap (λ (r : Declared Declarations). and_lines number r (λ d. after_lines (number + 1) d (map env_line_for more ++ lines)))
    (printed_variable env v more events all each.0)
    ∙ next
    ∙ ap (λ (l : List Variable). after_lines (number + 1 + length more) (declarations l events) lines) (append_assoc env (v ∷ []) more)
    ∙ ap (λ (n : ℕ). after_lines n (declarations (env ++ (v ∷ more)) events) lines) (omega arith)
