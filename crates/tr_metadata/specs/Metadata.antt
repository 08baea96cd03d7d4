-- The metadata of a session with declared events: the classes by which the model of a reader reads, as text.
use Rattle.std.specs.Prelude.{ℕ, List, [], ◌∷◌, ◌++◌, codes, if◌then◌else◌}
use Rattle.std.specs.Fmt.{decimal, signed_decimal}
use Rattle.std.specs.List.{flat_map}
use Rattle.tr_packet.specs.Metadata.{lines, preface_text, trace_text, metadata_of}
use Rattle.tr_events.specs.Events.{Declarations, Label, Field, Event, is_nothing}
use Rattle.tr_events.specs.Variables.{Variable, is_told_as_number}
use Rattle.tr_events.specs.Words.{declarations_text, number_word}
use Rattle.tr_metadata.specs.Reader.{Type_of, Scalar, String, Fixed, Counted, Characters, Member, members_of, ranges_from}
use Rattle.tr_metadata.specs.declared.ranges.Range.{Range}

-- ---- the declarations

-- in a comment, so that they come out of the text again
abbrev pub comment_text : Declarations → List ℕ
comment_text d = codes "/* tracerd events\n" ++ (declarations_text d ++ codes "*/\n\n")

-- ---- the environment

abbrev pub value_text : Variable → List ℕ
value_text v = if is_told_as_number v then v.value else 34 ∷ (v.value ++ 34 ∷ [])

abbrev pub variable_text : Variable → List ℕ
variable_text v = codes "  " ++ (v.name ++ (codes " = " ++ (value_text v ++ codes ";\n")))

-- what is said of the trace's host and program, if anything is
abbrev pub env_text : List Variable → List ℕ
env_text [] = []
env_text (v ∷ env) = codes "env {\n" ++ (flat_map variable_text (v ∷ env) ++ codes "};\n\n")

-- ---- fixed parts

-- the clock, in one timeline with other traces, and the type of moments
abbrev pub typed_clock_text : List ℕ
typed_clock_text =
    lines (
    codes "clock {"
    ∷ codes "  name = \"moment\";"
    ∷ codes "  freq = 1000000000;"
    ∷ codes "  offset = 0;"
    ∷ codes "  absolute = true;"
    ∷ codes "};"
    ∷ codes ""
    ∷ codes "typealias integer {"
    ∷ codes "  size = 64; align = 8; signed = false;"
    ∷ codes "  map = clock.moment.value;"
    ∷ codes "} := moment_t;"
    ∷ codes ""
    ∷ []
    )

-- the types of fields
abbrev pub types_text : List ℕ
types_text =
    lines (
    codes "typealias integer { size = 8; align = 8; signed = false; } := u8_t;"
    ∷ codes "typealias integer { size = 16; align = 8; signed = false; } := u16_t;"
    ∷ codes "typealias integer { size = 32; align = 8; signed = false; } := u32_t;"
    ∷ codes "typealias integer { size = 64; align = 8; signed = false; } := u64_t;"
    ∷ codes "typealias integer { size = 8; align = 8; signed = true; } := i8_t;"
    ∷ codes "typealias integer { size = 16; align = 8; signed = true; } := i16_t;"
    ∷ codes "typealias integer { size = 32; align = 8; signed = true; } := i32_t;"
    ∷ codes "typealias integer { size = 64; align = 8; signed = true; } := i64_t;"
    ∷ codes "typealias integer { size = 8; align = 8; signed = false; base = hex; } := x8_t;"
    ∷ codes "typealias integer { size = 16; align = 8; signed = false; base = hex; } := x16_t;"
    ∷ codes "typealias integer { size = 32; align = 8; signed = false; base = hex; } := x32_t;"
    ∷ codes "typealias integer { size = 64; align = 8; signed = false; base = hex; } := x64_t;"
    ∷ codes "typealias floating_point { exp_dig = 8; mant_dig = 24; align = 8; } := f32_t;"
    ∷ codes "typealias floating_point { exp_dig = 11; mant_dig = 53; align = 8; } := f64_t;"
    ∷ codes "typealias enum : u8_t { no = 0, yes = 1 } := flag_t;"
    ∷ codes "typealias string { encoding = UTF8; } := text_t;"
    ∷ codes "typealias integer { size = 8; align = 8; signed = false; encoding = UTF8; } := char_t;"
    ∷ codes "typealias integer { size = 1; align = 1; signed = false; } := bit_t;"
    ∷ codes "typealias integer {"
    ∷ codes "  size = 63; align = 8; signed = false;"
    ∷ codes "  map = clock.moment.value;"
    ∷ codes "} := moment63_t;"
    ∷ codes ""
    ∷ []
    )

-- the packet context, and the event header up to its ranges
abbrev pub stream_begin_text : List ℕ
stream_begin_text =
    lines (
    codes "stream {"
    ∷ codes "  id = 0;"
    ∷ codes "  packet.context := struct {"
    ∷ codes "    moment_t timestamp_begin;"
    ∷ codes "    moment_t timestamp_end;"
    ∷ codes "    uint64_t content_size;"
    ∷ codes "    uint64_t packet_size;"
    ∷ codes "    uint64_t packet_seq_num;"
    ∷ codes "    uint64_t events_discarded;"
    ∷ codes "  };"
    ∷ codes "  event.header := struct {"
    ∷ codes "    enum : uint32_t {"
    ∷ []
    )

-- the event header after its ranges
abbrev pub stream_end_text : List ℕ
stream_end_text =
    lines (
    codes "    } id;"
    ∷ codes "    variant <id> {"
    ∷ codes "      struct { moment_t timestamp; } declared;"
    ∷ codes "      struct { moment63_t timestamp; bit_t id; } other;"
    ∷ codes "    } v;"
    ∷ codes "  };"
    ∷ codes "};"
    ∷ codes ""
    ∷ []
    )

-- the class of all that isn't declared
abbrev pub other_text : List ℕ
other_text =
    lines (
    codes "event {"
    ∷ codes "  name = \"record\";"
    ∷ codes "  id = 0;"
    ∷ codes "  stream_id = 0;"
    ∷ codes "  fields := struct {"
    ∷ codes "    uint64_t serial;"
    ∷ codes "    uint32_t len;"
    ∷ codes "    uint8_t payload[len];"
    ∷ codes "  };"
    ∷ codes "};"
    ∷ []
    )

-- ---- the header's ranges

abbrev pub range_text : Range → List ℕ
range_text r =
    (if r.declared then codes "      declared = " else codes "      other = ")
    ++ (decimal r.low ++ (codes " ... " ++ decimal r.high))

-- a range after another one
abbrev pub range_rest : Range → List ℕ
range_rest r = codes ",\n" ++ range_text r

abbrev pub ranges_text : List Range → List ℕ
ranges_text [] = []
ranges_text (r ∷ ranges) = range_text r ++ (flat_map range_rest ranges ++ 10 ∷ [])

-- ---- classes

abbrev pub label_text : Label → List ℕ
label_text l = 34 ∷ (l.name ++ (codes "\" = " ++ signed_decimal l.value))

-- a label after another one
abbrev pub label_text_rest : Label → List ℕ
label_text_rest l = codes ", " ++ label_text l

-- an enum if its values have names
abbrev pub scalar_text : List ℕ → List Label → List ℕ
scalar_text word [] = word ++ codes "_t"
scalar_text word (l ∷ labels) =
    (codes "enum : " ++ (word ++ codes "_t { ")) ++ (label_text l ++ (flat_map label_text_rest labels ++ codes " }"))

-- the type before a member's name, and what follows the name
abbrev pub type_text : Type_of → List ℕ
type_text (Scalar k labels) = scalar_text (number_word k) labels
type_text String = codes "text_t"
type_text (Fixed k count) = number_word k ++ codes "_t"
type_text (Counted k by) = number_word k ++ codes "_t"
type_text (Characters by) = codes "char_t"

abbrev pub bound_text : Type_of → List ℕ
bound_text (Scalar k labels) = codes ";\n"
bound_text String = codes ";\n"
bound_text (Fixed k count) = 91 ∷ (decimal count ++ codes "];\n")
bound_text (Counted k by) = 91 ∷ (by ++ codes "];\n")
bound_text (Characters by) = 91 ∷ (by ++ codes "];\n")

abbrev pub member_text : Member → List ℕ
member_text m = codes "    " ++ (type_text m.type ++ (32 ∷ (m.name ++ bound_text m.type)))

-- the members of a field
abbrev pub field_text : Field → List ℕ
field_text f = flat_map member_text (members_of f)

abbrev pub class_begin_text : Event → List ℕ
class_begin_text e =
    codes "\nevent {\n  name = \""
    ++ (e.name
    ++ (codes "\";\n  id = "
    ++ (decimal e.id ++ codes ";\n  stream_id = 0;\n  fields := struct {\n    uint64_t serial;\n    uint32_t len;\n")))

-- the class of a declared event
abbrev pub class_text : Event → List ℕ
class_text e = class_begin_text e ++ (flat_map field_text e.fields ++ codes "  };\n};\n")

-- ---- the whole text

abbrev pub stream_text_by : List Range → List ℕ
stream_text_by ranges = stream_begin_text ++ (ranges_text ranges ++ stream_end_text)

abbrev pub typed_stream_text : List Event → List ℕ
typed_stream_text events = stream_text_by (ranges_from 0 events)

-- up to the trace
abbrev pub front_text : Declarations → List ℕ → List ℕ
front_text d uuid = preface_text ++ (comment_text d ++ trace_text uuid)

-- from the environment to the class of streams
abbrev pub middle_text : Declarations → List ℕ
middle_text d = env_text d.env ++ (typed_clock_text ++ (types_text ++ typed_stream_text d.events))

-- the classes of events
abbrev pub back_text : Declarations → List ℕ
back_text d = other_text ++ flat_map class_text d.events

abbrev pub typed_metadata : Declarations → List ℕ → List ℕ
typed_metadata d uuid = front_text d uuid ++ (middle_text d ++ back_text d)

-- the metadata of the trace with this identifier, by what is declared; if nothing is, the one of records alone
unfoldable pub metadata_with : Declarations → List ℕ → List ℕ
metadata_with d uuid = if is_nothing d then metadata_of uuid else typed_metadata d uuid
