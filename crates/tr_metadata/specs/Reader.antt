-- What a reader of CTF 1.8 reads of our packets by typed metadata: a class of events is a list of fields, which are read one
-- after another, lowest byte first, without padding.
use Rattle.std.specs.Prelude.{ℕ, zero, suc, ◌+◌, ◌-◌, ◌/◌, ◌%◌, ◌^◌, Bool, true, false, ◌==◌, nat_lt, List, [], ◌∷◌, ◌++◌, map, length, take, drop, codes, Option, Some, None, unwrap_or, option_map, if◌then◌else◌, bytes_eq}
use Rattle.std.specs.Int.{w32, w64, is_in_range}
use Rattle.std.specs.List.{AllByRecursion, flat_map}
use Rattle.tr_record.specs.Records.{Entry}
use Rattle.tr_record.specs.Reading.{◌>>=◌, number_at}
use Rattle.tr_packet.specs.Packets.{Contents, IsPacket}
use Rattle.tr_packet.specs.Decoding.{content_bits_in, packet_bits_in}
use Rattle.tr_terms.specs.declared.limits.TheConstants.{PACKET_HEADER}
use Rattle.tr_events.specs.declared.layouts.TheConstants.{MOST_ID}
use Rattle.tr_events.specs.Events.{Label, Field, Event, Natural, Integer, Bits, Value, Single, Several, Bytes, atom_at, atoms_at, string_at, values_of, event_with, FitsAsDeclared}
use Rattle.tr_events.specs.declared.layouts.Form.TheVariants.{AsText, AsBytes}
use Rattle.tr_events.specs.declared.layouts.Layout.{Layout}
use Rattle.tr_events.specs.declared.layouts.Layout.TheVariants.{One, Array, Sequence, Text, All}
use Rattle.tr_metadata.specs.declared.ranges.Range.{Range}
use Rattle.tr_events.specs.declared.layouts.Number.{Number}
use Rattle.tr_events.specs.declared.layouts.Size.{Size}
use Rattle.tr_events.specs.declared.layouts.Sort.{Sort}
use Rattle.tr_events.specs.declared.layouts.Size.TheVariants.{Bits8, Bits32}
use Rattle.tr_events.specs.declared.layouts.Sort.TheVariants.{Unsigned, Hexadecimal}

-- ---- classes

-- an integer, a floating_point or an enum; a string; an array; a sequence of these or of characters, as long as the field of
-- this name says
pub data Type_of : Type 0 where
  Scalar : Number → List Label → Type_of
  String : Type_of
  Fixed : Number → ℕ → Type_of
  Counted : Number → (by : List ℕ) → Type_of
  Characters : (by : List ℕ) → Type_of

pub record Member : Type 0 where
  pub name : List ℕ
  pub type : Type_of

abbrev pub member : List ℕ → Type_of → Member
member name type = record { name = name; type = type }

abbrev pub number : Sort → Size → Number
number sort size = record { sort = sort; size = size }

abbrev pub len_name : List ℕ
len_name = codes "len"

-- the members that a field is: readers take the underscore away
abbrev pub members_as : List ℕ → List Label → Layout → List Member
members_as name labels (One k) = member name (Scalar k labels) ∷ []
members_as name labels (Array k count) = member name (Fixed k count) ∷ []
members_as name labels (Sequence k) =
    let by = name ++ codes "_length" in
    member by (Scalar (number Unsigned Bits32) []) ∷ member name (Counted k by) ∷ []
members_as name labels Text = member name String ∷ []
members_as name labels (All AsText) = member name (Characters len_name) ∷ []
members_as name labels (All AsBytes) = member name (Counted (number Hexadecimal Bits8) len_name) ∷ []

abbrev pub members_of : Field → List Member
members_of f = members_as (95 ∷ f.name) f.labels f.layout

-- the class of all that isn't declared
abbrev pub other_members : List Member
other_members = member (codes "payload") (Counted (number Unsigned Bits8) len_name) ∷ []

-- the members of a class behind `serial` and `len`
abbrev pub class_members : List Event → ℕ → Option (List Member)
class_members events id =
    if id == 0 then Some other_members
    else option_map (λ (e : Event). flat_map members_of e.fields) (event_with id events)

abbrev pub range : Bool → ℕ → ℕ → Range
range declared low high = record { declared = declared; low = low; high = high }

-- the others from `from` on and below `to`
abbrev pub gap : ℕ → ℕ → List Range
gap from to = if nat_lt from to then range false from (to - 1) ∷ [] else []

-- the ranges of the tags from `from` on, by events in the order of ids
abbrev pub ranges_from : ℕ → List Event → List Range
ranges_from from [] = gap from (MOST_ID + 1)
ranges_from from (e ∷ events) = gap from e.id ++ (range true e.id e.id ∷ ranges_from (e.id + 1) events)

-- whether the range of a tag is of declared ones
abbrev pub label_of : ℕ → List Range → Option Bool
label_of tag [] = None
label_of tag (r ∷ ranges) = if is_in_range r.low r.high tag then Some r.declared else label_of tag ranges

-- ---- reading

-- the whole numbers read before, by name, the last one first
abbrev pub Known : Type 0
Known = List (List ℕ × ℕ)

abbrev pub known_as : List ℕ → Known → Option ℕ
known_as name [] = None
known_as name (k ∷ known) = if bytes_eq k.0 name then Some k.1 else known_as name known

abbrev pub learn : List ℕ → Value → Known → Known
learn name (Single (Natural n)) known = (name, n) ∷ known
learn name (Single (Integer z)) known = known
learn name (Single (Bits n)) known = known
learn name (Several values) known = known
learn name (Bytes text) known = known

unfoldable pub type_at : Type_of → Known → List ℕ → Option (Value × List ℕ)
type_at (Scalar k labels) known bytes = atom_at k bytes >>= λ v. Some (Single v.0, v.1)
type_at String known bytes = string_at bytes >>= λ v. Some (Bytes v.0, v.1)
type_at (Fixed k count) known bytes = atoms_at k count bytes >>= λ v. Some (Several v.0, v.1)
type_at (Counted k by) known bytes = known_as by known >>= λ n. atoms_at k n bytes >>= λ v. Some (Several v.0, v.1)
type_at (Characters by) known bytes =
    known_as by known >>= λ n. atoms_at (number Unsigned Bits8) n bytes >>= λ v. Some (Several v.0, v.1)

unfoldable pub members_at : List Member → Known → List ℕ → Option (List (List ℕ × Value) × List ℕ)
members_at [] known bytes = Some ([], bytes)
members_at (m ∷ members) known bytes = do
  first ← type_at m.type known bytes
  others ← members_at members (learn m.name first.0 known) first.1
  Some ((m.name, first.0) ∷ others.0, others.1)

-- an event as it is read: its class, and the members behind `serial` and `len`
pub record Read : Type 0 where
  pub serial : ℕ
  pub moment : ℕ
  pub class : ℕ
  pub members : List (List ℕ × Value)

abbrev pub read : ℕ → ℕ → ℕ → List (List ℕ × Value) → Read
read serial moment class members = record { serial = serial; moment = moment; class = class; members = members }

-- the variant of the event header: for a declared tag a moment of 64 bits, and else one of 63 bits and then, in the highest
-- bit, another id
abbrev pub class_by : Bool → (tag word : ℕ) → ℕ
class_by declared tag word = if declared then tag else word / 2 ^ 63

abbrev pub moment_by : Bool → (word : ℕ) → ℕ
moment_by declared word = if declared then word else word % 2 ^ 63

-- the event that the bytes begin with: header, `serial`, `len`, and the members of its class. None: an id without a class, or
-- too few bytes
unfoldable pub event_at : List Event → List ℕ → Option (Read × List ℕ)
event_at events bytes = do
  tag ← number_at w32 bytes
  word ← number_at w64 tag.1
  serial ← number_at w64 word.1
  len ← number_at w32 serial.1
  declared ← label_of tag.0 (ranges_from 0 events)
  members ← class_members events (class_by declared tag.0 word.0)
  values ← members_at members ((len_name, len.0) ∷ (codes "serial", serial.0) ∷ []) len.1
  Some (read serial.0 (moment_by declared word.0) (class_by declared tag.0 word.0) values.0, values.1)

-- events up to the end of the bytes, at most k of them
unfoldable pub events_up_to : List Event → ℕ → List ℕ → Option (List Read)
events_up_to events zero bytes = if length bytes == 0 then Some [] else None
events_up_to events (suc k) bytes =
    if length bytes == 0 then Some []
    else (event_at events bytes >>= λ first. events_up_to events k first.1 >>= λ others. Some (first.0 ∷ others))

-- the events of the packet that the bytes begin with: what stands between its context and its content_size
unfoldable pub packet_read : List Event → List ℕ → Option (List Read)
packet_read events bytes =
    let content = drop PACKET_HEADER (take (content_bits_in bytes / 8) bytes) in
    events_up_to events (length content) content

-- the events of all packets of a stream's file, at most k of them: a packet ends where its packet_size says
unfoldable pub packets_up_to : List Event → ℕ → List ℕ → Option (List Read)
packets_up_to events zero bytes = if length bytes == 0 then Some [] else None
packets_up_to events (suc k) bytes =
    if length bytes == 0 then Some []
    else (packet_read events bytes
    >>= λ first. packets_up_to events k (drop (packet_bits_in bytes / 8) bytes) >>= λ others. Some (first ++ others))

unfoldable pub file_read : List Event → List ℕ → Option (List Read)
file_read events bytes = packets_up_to events (length bytes) bytes

-- ---- what should be read

-- how many numbers there are
abbrev pub count_in : Value → ℕ
count_in (Single v) = 1
count_in (Several values) = length values
count_in (Bytes text) = length text

-- a field's value as its members show it
abbrev pub shown_as : List ℕ → Layout → Value → List (List ℕ × Value)
shown_as name (One k) v = (name, v) ∷ []
shown_as name (Array k count) v = (name, v) ∷ []
shown_as name (Sequence k) v = (name ++ codes "_length", Single (Natural (count_in v))) ∷ (name, v) ∷ []
shown_as name Text v = (name, v) ∷ []
shown_as name (All form) v = (name, v) ∷ []

abbrev pub shown : List Field → List Value → List (List ℕ × Value)
shown [] values = []
shown (f ∷ fields) [] = []
shown (f ∷ fields) (v ∷ values) = shown_as (95 ∷ f.name) f.layout v ++ shown fields values

abbrev pub read_as : Option Event → Entry → Read
read_as None e = read e.serial e.moment 0 ((codes "payload", Several (map Natural e.payload)) ∷ [])
read_as (Some event) e = read e.serial e.moment e.id (shown event.fields (unwrap_or (values_of event e.payload) []))

-- the record as it should be read: of an undeclared id all bytes of its payload, of a declared one its values
abbrev pub read_of : List Event → Entry → Read
read_of events e = read_as (event_with e.id events) e

-- what should be read of a packet
abbrev pub reads_of : List Event → Contents → List Read
reads_of events p = map (read_of events) p.records

-- it is a packet, and its records of declared ids fit
pub record IsReadable (events : List Event) (p : Contents) : Type 0 where
  pub packet : IsPacket p
  pub declared : AllByRecursion (FitsAsDeclared events) p.records
