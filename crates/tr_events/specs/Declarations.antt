-- What a text declares, and the words by which it does.
use Rattle.std.specs.Prelude.{◌≡◌, ℕ, not, ◌&&◌, IsTrue, List, ◌∷◌, ◌++◌, ◌≤◌, codes, length, map, nat_lt, Ok}
use Rattle.std.specs.Fmt.{decimal}
use Rattle.std.specs.List.{AllByRecursion, list_all}
use Rattle.tr_lines.specs.Lines.{is_printable}
use Rattle.tr_lines.specs.Words.{is_space, words_of}
use Rattle.tr_events.specs.declared.variables.TheConstants.{MOST_VARIABLES}
use Rattle.tr_events.specs.Events.{Declarations, Event, Field, AreEvents}
use Rattle.tr_events.specs.Lines.{are_names_apart, env_in, event_in}
use Rattle.tr_events.specs.Variables.{Variable}
use Rattle.tr_events.specs.Words.{layout_word}

-- NAME:TYPE
abbrev pub word_of : Field → List ℕ
word_of f = f.name ++ (58 ∷ layout_word f.layout f.labels)

-- the words of its line
abbrev pub words_for : Event → List (List ℕ)
words_for e = e.name ∷ decimal e.id ∷ map word_of e.fields

-- it can stand between spaces
abbrev pub IsWord : List ℕ → Type 0
IsWord word = IsTrue (nat_lt 0 (length word)) × IsTrue (list_all (λ b. is_printable b && not (is_space b)) word)

-- the words of its line declare it, and stand in one line
pub record IsDeclaration (e : Event) : Type 0 where
  pub declares : event_in (words_for e) ≡ Ok e
  pub words : AllByRecursion IsWord (words_for e)

abbrev pub names_for : List Event → List (List ℕ)
names_for = map (λ (e : Event). e.name)

-- events in the order of ids, each id and each name once, none 0
pub record AreDeclaredEvents (events : List Event) : Type 0 where
  pub are : AreEvents events
  pub names : IsTrue (are_names_apart (names_for events))
  pub each : AllByRecursion IsDeclaration events

-- the words of a variable's line
abbrev pub env_words : Variable → List (List ℕ)
env_words v = codes "env" ∷ v.name ∷ words_of v.value

-- the words of its line give it, and stand in one line
pub record IsVariable (v : Variable) : Type 0 where
  pub gives : env_in (env_words v) ≡ Ok v
  pub words : AllByRecursion IsWord (env_words v)

abbrev pub variable_names : List Variable → List (List ℕ)
variable_names = map (λ (v : Variable). v.name)

-- variables, each name once
pub record AreVariables (env : List Variable) : Type 0 where
  pub few : length env ≤ MOST_VARIABLES
  pub names : IsTrue (are_names_apart (variable_names env))
  pub each : AllByRecursion IsVariable env

-- declarations that stand together
pub record AreDeclared (d : Declarations) : Type 0 where
  pub env : AreVariables d.env
  pub events : AreDeclaredEvents d.events
