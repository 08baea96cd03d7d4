-- Declared events: how the payload of a record with a declared id is laid out, and what its values are.
use Rattle.std.specs.Prelude.{◌+◌, ◌≤◌, ◌*◌, ℕ, zero, suc, ℤ, Bool, true, false, not, ◌&&◌, ◌==◌, nat_lt, IsTrue, List, [], ◌∷◌, map, length, drop, Option, Some, None, is_some, option_map, unwrap_or, if◌then◌else◌}
use Rattle.std.specs.Int.{Width, w8, w16, w32, w64, byte_len, cast_signed}
use Rattle.std.specs.List.{list_all, list_any}
use Rattle.tr_record.specs.Records.{Entry}
use Rattle.tr_record.specs.Reading.{◌>>=◌, number_at}
use Rattle.tr_events.specs.Variables.{Variable}
use Rattle.tr_events.specs.declared.layouts.TheConstants.{MOST_EVENTS}
use Rattle.tr_events.specs.declared.layouts.Layout.{Layout}
use Rattle.tr_events.specs.declared.layouts.Layout.TheVariants.{One, Array, Sequence, Text, All}
use Rattle.tr_events.specs.declared.layouts.Number.{Number}
use Rattle.tr_events.specs.declared.layouts.Size.{Size}
use Rattle.tr_events.specs.declared.layouts.Size.TheVariants.{Bits8, Bits16, Bits32, Bits64}
use Rattle.tr_events.specs.declared.layouts.Sort.{Sort}
use Rattle.tr_events.specs.declared.layouts.Sort.TheVariants.{Unsigned, Signed, Hexadecimal, Floating, Flag}

-- ---- declarations

-- a name for a value of a field
pub record Label : Type 0 where
  pub name : List ℕ
  pub value : ℤ

abbrev pub label : List ℕ → ℤ → Label
label name value = record { name = name; value = value }

-- a field; if it is a number, its values may have names
pub record Field : Type 0 where
  pub name : List ℕ
  pub layout : Layout
  pub labels : List Label

abbrev pub field : List ℕ → Layout → List Label → Field
field name layout labels = record { name = name; layout = layout; labels = labels }

-- a declared event: its fields stand one after another, without padding
pub record Event : Type 0 where
  pub name : List ℕ
  pub id : ℕ
  pub fields : List Field

abbrev pub event : List ℕ → ℕ → List Field → Event
event name id fields = record { name = name; id = id; fields = fields }

-- what a session declares: variables of its environment, and events in the order of ids
pub record Declarations : Type 0 where
  pub env : List Variable
  pub events : List Event

abbrev pub declarations : List Variable → List Event → Declarations
declarations env events = record { env = env; events = events }

abbrev pub nothing : Declarations
nothing = declarations [] []

abbrev pub is_nothing : Declarations → Bool
is_nothing d = length d.env == 0 && length d.events == 0

-- ---- values

-- a number: whole, with a sign, or a floating point number by its bits
pub data Atom : Type 0 where
  Natural : ℕ → Atom
  Integer : ℤ → Atom
  Bits : ℕ → Atom

pub data Value : Type 0 where
  Single : Atom → Value
  Several : List Atom → Value
  Bytes : List ℕ → Value

abbrev pub width_of : Size → Width
width_of Bits8 = w8
width_of Bits16 = w16
width_of Bits32 = w32
width_of Bits64 = w64

abbrev pub atom_as : Sort → Width → ℕ → Atom
atom_as Unsigned w n = Natural n
atom_as Signed w n = Integer (cast_signed w n)
atom_as Hexadecimal w n = Natural n
atom_as Floating w n = Bits n
atom_as Flag w n = Natural n

abbrev pub atom_of : Number → ℕ → Atom
atom_of k n = atom_as k.sort (width_of k.size) n

-- a number, lowest byte first, and the bytes after it
unfoldable pub atom_at : Number → List ℕ → Option (Atom × List ℕ)
atom_at k bytes = do
  n ← number_at (width_of k.size) bytes
  Some (atom_of k n.0, n.1)

-- so many numbers
unfoldable pub atoms_at : Number → ℕ → List ℕ → Option (List Atom × List ℕ)
atoms_at k zero bytes = Some ([], bytes)
atoms_at k (suc n) bytes = do
  first ← atom_at k bytes
  others ← atoms_at k n first.1
  Some (first.0 ∷ others.0, others.1)

-- the bytes before the first zero byte, and those after it
unfoldable pub string_at : List ℕ → Option (List ℕ × List ℕ)
string_at [] = None
string_at (b ∷ bytes) =
    if b == 0 then Some ([], bytes)
    else (string_at bytes >>= λ others. Some (b ∷ others.0, others.1))

-- the value of a field that begins with the bytes, and the bytes after it
unfoldable pub layout_at : Layout → List ℕ → Option (Value × List ℕ)
layout_at (One k) bytes = atom_at k bytes >>= λ v. Some (Single v.0, v.1)
layout_at (Array k count) bytes = atoms_at k count bytes >>= λ v. Some (Several v.0, v.1)
layout_at (Sequence k) bytes = number_at w32 bytes >>= λ n. atoms_at k n.0 n.1 >>= λ v. Some (Several v.0, v.1)
layout_at Text bytes = string_at bytes >>= λ v. Some (Bytes v.0, v.1)
layout_at (All form) bytes = Some (Several (map Natural bytes), [])

-- the values of fields, one after another
unfoldable pub fields_at : List Field → List ℕ → Option (List Value × List ℕ)
fields_at [] bytes = Some ([], bytes)
fields_at (f ∷ fields) bytes = do
  first ← layout_at f.layout bytes
  others ← fields_at fields first.1
  Some (first.0 ∷ others.0, others.1)

-- the values of a payload, if its fields end where it ends
unfoldable pub values_of : Event → List ℕ → Option (List Value)
values_of e payload = fields_at e.fields payload >>= λ v. if length v.1 == 0 then Some v.0 else None

-- the rule of layouts
abbrev pub fits : Event → List ℕ → Bool
fits e payload = is_some (values_of e payload)

-- ---- where fields end

-- the bytes behind so many
abbrev pub cut : ℕ → List ℕ → Option (List ℕ)
cut n bytes = if nat_lt (length bytes) n then None else Some (drop n bytes)

-- the bytes behind so many numbers
abbrev pub atoms_behind : Number → ℕ → List ℕ → Option (List ℕ)
atoms_behind k n bytes = cut (n * byte_len (width_of k.size)) bytes

-- the bytes behind the first zero byte
abbrev pub string_behind : List ℕ → Option (List ℕ)
string_behind [] = None
string_behind (b ∷ bytes) = if b == 0 then Some bytes else string_behind bytes

-- the bytes behind a field
abbrev pub behind : Layout → List ℕ → Option (List ℕ)
behind (One k) bytes = atoms_behind k 1 bytes
behind (Array k count) bytes = atoms_behind k count bytes
behind (Sequence k) bytes = number_at w32 bytes >>= λ n. atoms_behind k n.0 n.1
behind Text bytes = string_behind bytes
behind (All form) bytes = Some []

-- the size of a field that has but one
abbrev pub fixed : Layout → Option ℕ
fixed (One k) = Some (byte_len (width_of k.size))
fixed (Array k count) = Some (count * byte_len (width_of k.size))
fixed (Sequence k) = None
fixed Text = None
fixed (All form) = None

-- the size of fields, if each has but one
abbrev pub exact : List Field → Option ℕ
exact [] = Some 0
exact (f ∷ fields) = fixed f.layout >>= λ a. exact fields >>= λ b. Some (a + b)

-- more bytes before
abbrev pub and_before : ℕ → Option ℕ → Option ℕ
and_before n o = o >>= λ b. Some (n + b)

-- fields end where the bytes end
abbrev pub end_there : List Field → List ℕ → Bool
end_there [] bytes = length bytes == 0
end_there (f ∷ fields) bytes = unwrap_or (option_map (end_there fields) (behind f.layout bytes)) false

-- ---- declarations that may stand together

abbrev pub is_all : Layout → Bool
is_all (One k) = false
is_all (Array k count) = false
is_all (Sequence k) = false
is_all Text = false
is_all (All form) = true

abbrev pub has_all : List Field → Bool
has_all = list_any (λ (f : Field). is_all f.layout)

-- what is all of the payload stands alone
abbrev pub is_apart : List Field → Bool
is_apart [] = true
is_apart (f ∷ []) = true
is_apart (f ∷ g ∷ fields) = not (has_all (f ∷ g ∷ fields))

-- the ids rise strictly, above the given one
abbrev pub ids_rise : ℕ → List Event → Bool
ids_rise before [] = true
ids_rise before (e ∷ events) = nat_lt before e.id && ids_rise e.id events

abbrev pub all_apart : List Event → Bool
all_apart = list_all (λ (e : Event). is_apart e.fields)

-- events, each id once and none 0, in the order of ids
pub record AreEvents (events : List Event) : Type 0 where
  pub few : length events ≤ MOST_EVENTS
  pub rise : IsTrue (ids_rise 0 events)
  pub apart : IsTrue (all_apart events)

-- the event with this id
abbrev pub event_with : ℕ → List Event → Option Event
event_with id [] = None
event_with id (e ∷ events) = if e.id == id then Some e else event_with id events

-- a payload of this id fits, if the id is declared
abbrev pub fits_if_some : Option Event → List ℕ → Bool
fits_if_some None payload = true
fits_if_some (Some e) payload = fits e payload

abbrev pub fits_among : List Event → ℕ → List ℕ → Bool
fits_among events id payload = fits_if_some (event_with id events) payload

abbrev pub fits_declared : Declarations → ℕ → List ℕ → Bool
fits_declared d id payload = fits_among d.events id payload

-- if its id is declared, the record's payload fits
abbrev pub FitsAsDeclared : List Event → Entry → Type 0
FitsAsDeclared events e = IsTrue (fits_among events e.id e.payload)
