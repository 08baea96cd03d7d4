-- What the lines of a text declare.
use Rattle.std.specs.Prelude.{ℕ, ◌+◌, ◌*◌, Bool, true, false, not, ◌&&◌, ◌||◌, nat_le, nat_lt, nat_eq, List, [], ◌∷◌, ◌++◌, codes, length, Option, Some, None, Result, Ok, Err, Vec, if◌then◌else◌, bytes_eq}
use Rattle.std.specs.Cmp.Lexicographic.{pointwise}
use Rattle.std.specs.Int.{byte_len}
use Rattle.std.specs.Option.{option_and_then}
use Rattle.std.specs.List.{flat_map, join_with_byte, list_all, list_any, slice_split}
use Rattle.tr_lines.specs.Lines.{is_feed, is_printable}
use Rattle.tr_lines.specs.Words.{is_skipped, words_of}
use Rattle.tr_terms.specs.Names.{is_name}
use Rattle.tr_events.specs.declared.faults.EventFault.{EventFault}
use Rattle.tr_events.specs.declared.faults.EventFault.TheVariants.{BadEvent, BadField, BadType, NotAlone, FieldTwice, EventTaken, TooMany, BadVariable, BadValue, VariableTaken, TooManyVariables}
use Rattle.tr_events.specs.declared.faults.LineFault.{LineFault}
use Rattle.tr_events.specs.declared.layouts.Layout.{Layout}
use Rattle.tr_events.specs.declared.layouts.Layout.TheVariants.{One, Array, Sequence, Text, All}
use Rattle.tr_events.specs.declared.layouts.TheConstants.{MOST_EVENTS, MOST_FIELDS, MOST_ID, MOST_PAYLOAD, LONGEST_DECLARATIONS}
use Rattle.tr_events.specs.declared.variables.TheConstants.{MOST_VARIABLES}
use Rattle.tr_events.specs.Events.{Declarations, declarations, nothing, Event, event, Field, field, is_apart, width_of}
use Rattle.tr_events.specs.Numbers.{is_digit, number_of}
use Rattle.tr_events.specs.Types.{Type_named, parted_at, type_in}
use Rattle.tr_events.specs.Variables.{Variable, variable, is_variable_name, may_be}

abbrev pub Declared : Type 0 → Type 0
Declared X = Result X EventFault

-- this, if no fault is found
abbrev pub unless : {X : Type 0} → Option EventFault → X → Declared X
unless None x = Ok x
unless (Some fault) x = Err fault

-- ---- a field

abbrev pub is_field_name : List ℕ → Bool
is_field_name name = is_name name && (not (bytes_eq name (codes "serial")) && not (bytes_eq name (codes "len")))

abbrev pub field_of : List ℕ → Option Type_named → Declared Field
field_of name None = Err BadType
field_of name (Some t) = Ok (field name t.0 t.1)

abbrev pub field_by : Option (List ℕ × List ℕ) → Declared Field
field_by None = Err BadField
field_by (Some p) = if is_field_name p.0 then field_of p.0 (type_in p.1) else Err BadField

-- NAME:TYPE
abbrev pub field_in : List ℕ → Declared Field
field_in word = field_by (parted_at 58 word)

abbrev pub before_fields : Field → Declared (List Field) → Declared (List Field)
before_fields f (Err fault) = Err fault
before_fields f (Ok fields) = Ok (f ∷ fields)

abbrev pub fields_after : Declared Field → Declared (List Field) → Declared (List Field)
fields_after (Err fault) others = Err fault
fields_after (Ok f) others = before_fields f others

abbrev pub fields_in : List (List ℕ) → Declared (List Field)
fields_in [] = Ok []
fields_in (word ∷ words) = fields_after (field_in word) (fields_in words)

-- ---- an event

abbrev pub lengths_named : List ℕ → Layout → List (List ℕ)
lengths_named name (One k) = []
lengths_named name (Array k count) = []
lengths_named name (Sequence k) = (name ++ codes "_length") ∷ []
lengths_named name Text = []
lengths_named name (All form) = []

-- the names that readers see of a field
abbrev pub names_of : Field → List (List ℕ)
names_of f = f.name ∷ lengths_named f.name f.layout

abbrev pub is_among_names : List (List ℕ) → List ℕ → Bool
is_among_names names name = list_any (pointwise nat_eq name) names

-- each once
abbrev pub are_names_apart : List (List ℕ) → Bool
are_names_apart [] = true
are_names_apart (name ∷ names) = not (is_among_names names name) && are_names_apart names

-- the fewest bytes of a field
abbrev pub least_of : Layout → ℕ
least_of (One k) = byte_len (width_of k.size)
least_of (Array k count) = count * byte_len (width_of k.size)
least_of (Sequence k) = 4
least_of Text = 1
least_of (All form) = 0

abbrev pub least : List Field → ℕ
least [] = 0
least (f ∷ fields) = least_of f.layout + least fields

-- fields that an event can't have, and why
abbrev pub checked : Event → Declared Event
checked e =
    if not (are_names_apart (flat_map names_of e.fields)) then Err FieldTwice
    else if not (is_apart e.fields) then Err NotAlone
    else if not (nat_le (length e.fields) MOST_FIELDS && nat_le (least e.fields) MOST_PAYLOAD) then Err TooMany
    else Ok e

abbrev pub event_by : List ℕ → ℕ → Declared (List Field) → Declared Event
event_by name id (Err fault) = Err fault
event_by name id (Ok fields) = checked (event name id fields)

abbrev pub is_event_name : List ℕ → Bool
is_event_name name = is_name name && not (bytes_eq name (codes "record"))

-- a number that may be an id
abbrev pub id_if : ℕ → Option ℕ
id_if n = if nat_lt 0 n && nat_le n MOST_ID then Some n else None

abbrev pub event_if : List ℕ → Option ℕ → List (List ℕ) → Declared Event
event_if name None words = Err BadEvent
event_if name (Some id) words = if is_event_name name then event_by name id (fields_in words) else Err BadEvent

-- NAME ID FIELD:TYPE ..
abbrev pub event_in : List (List ℕ) → Declared Event
event_in [] = Err BadEvent
event_in (name ∷ []) = Err BadEvent
event_in (name ∷ id ∷ words) = event_if name (option_and_then id_if (number_of id)) words

-- ---- events

-- one of them has this id or this name
abbrev pub is_taken : Event → List Event → Bool
is_taken e = list_any (λ (o : Event). nat_eq o.id e.id || pointwise nat_eq o.name e.name)

-- one more, in the order of ids
abbrev pub placed : Event → List Event → List Event
placed e [] = e ∷ []
placed e (o ∷ events) = if nat_le o.id e.id then o ∷ placed e events else e ∷ o ∷ events

abbrev pub added : List Event → Declared Event → Declared (List Event)
added events (Err fault) = Err fault
added events (Ok e) =
    if is_taken e events then Err EventTaken
    else if not (nat_lt (length events) MOST_EVENTS) then Err TooMany
    else Ok (placed e events)

-- ---- variables

abbrev pub variable_of : List ℕ → List ℕ → Declared Variable
variable_of name value =
    if not (is_variable_name name) then Err BadVariable
    else if not (may_be name value) then Err BadValue
    else Ok (variable name value)

-- NAME VALUE ..: the words of a value are one space apart
abbrev pub variable_in : List (List ℕ) → Declared Variable
variable_in [] = Err BadVariable
variable_in (name ∷ words) = variable_of name (join_with_byte 32 words)

-- one of them has this name
abbrev pub is_given : Variable → List Variable → Bool
is_given v = list_any (λ (o : Variable). pointwise nat_eq o.name v.name)

abbrev pub given : List Variable → Declared Variable → Declared (List Variable)
given env (Err fault) = Err fault
given env (Ok v) =
    if is_given v env then Err VariableTaken
    else if not (nat_lt (length env) MOST_VARIABLES) then Err TooManyVariables
    else Ok (env ++ v ∷ [])

abbrev pub begins_with_digit : List ℕ → Bool
begins_with_digit [] = false
begins_with_digit (b ∷ text) = is_digit b

-- `env` and a name; with an id after it, `env` is an event's name
abbrev pub is_env : List (List ℕ) → Bool
is_env [] = false
is_env (word ∷ []) = false
is_env (word ∷ next ∷ words) = bytes_eq word (codes "env") && not (begins_with_digit next)

-- env NAME VALUE ..
abbrev pub env_in : List (List ℕ) → Declared Variable
env_in [] = Err BadVariable
env_in (word ∷ words) = variable_in words

-- ---- lines

-- the words of a line, if all of it can be printed
abbrev pub words_in : List ℕ → Option (List (List ℕ))
words_in line = if list_all is_printable line then Some (words_of line) else None

abbrev pub with_env : Declarations → Declared (List Variable) → Declared Declarations
with_env d (Err fault) = Err fault
with_env d (Ok env) = Ok (declarations env d.events)

abbrev pub with_events : Declarations → Declared (List Event) → Declared Declarations
with_events d (Err fault) = Err fault
with_events d (Ok events) = Ok (declarations d.env events)

abbrev pub after_words : Declarations → Option (List (List ℕ)) → Declared Declarations
after_words d None = Err BadEvent
after_words d (Some words) =
    if is_skipped words then Ok d
    else if is_env words then with_env d (given d.env (env_in words))
    else with_events d (added d.events (event_in words))

-- what is declared after a line; a line without words declares nothing, nor does one that begins with `#`
abbrev pub after_line : Declarations → List ℕ → Declared Declarations
after_line d line = after_words d (words_in line)

abbrev pub line_fault : ℕ → EventFault → LineFault
line_fault line fault = record { line = line; fault = fault }

abbrev pub and_lines : ℕ → Declared Declarations → (Declarations → Result Declarations LineFault) → Result Declarations LineFault
and_lines number (Err fault) next = Err (line_fault number fault)
and_lines number (Ok d) next = next d

-- after several lines, of which the first has this number
abbrev pub after_lines : ℕ → Declarations → List (List ℕ) → Result Declarations LineFault
after_lines number d [] = Ok d
after_lines number d (line ∷ lines) = and_lines number (after_line d line) (λ more. after_lines (number + 1) more lines)

-- what a text declares: events in the order of ids, variables in the order of their lines; or the first line that is refused
abbrev pub declared : List ℕ → Result Declarations LineFault
declared text =
    if nat_le (length text) LONGEST_DECLARATIONS then after_lines 1 nothing (slice_split is_feed text)
    else Err (line_fault 1 TooMany)

-- ---- answers

-- what is in a list
abbrev pub listed : {X E Z : Type 0} → Result (Vec X Z) E → Result (List X) E
listed (Ok found) = Ok found.items
listed (Err fault) = Err fault
