-- The metadata text, which describes to readers of the trace how its packets are laid out.
use Rattle.std.specs.Prelude.{ℕ, List, [], ◌∷◌, ◌++◌, codes}
use Rattle.std.specs.List.{flat_map}
use Rattle.uuid.specs.Text.{lower, hyphenated_text}

-- lines, each with a newline after it
abbrev pub lines : List (List ℕ) → List ℕ
lines = flat_map (λ line. line ++ 10 ∷ [])

-- the types of numbers
abbrev pub preface_text : List ℕ
preface_text =
    lines (
    codes "/* CTF 1.8 */"
    ∷ codes ""
    ∷ codes "typealias integer { size = 8; align = 8; signed = false; } := uint8_t;"
    ∷ codes "typealias integer { size = 32; align = 8; signed = false; } := uint32_t;"
    ∷ codes "typealias integer { size = 64; align = 8; signed = false; } := uint64_t;"
    ∷ codes ""
    ∷ []
    )

-- the order of bytes, and the packet header
abbrev pub packet_header_text : List ℕ
packet_header_text =
    lines (
    codes "  byte_order = le;"
    ∷ codes "  packet.header := struct {"
    ∷ codes "    uint32_t magic;"
    ∷ codes "    uint8_t uuid[16];"
    ∷ codes "    uint32_t stream_id;"
    ∷ codes "    uint64_t stream_instance_id;"
    ∷ codes "  };"
    ∷ codes "};"
    ∷ codes ""
    ∷ []
    )

-- the trace: the standard's version, the identifier, the order of bytes and the packet header
abbrev pub trace_text : List ℕ → List ℕ
trace_text uuid =
    lines (codes "trace {" ∷ codes "  major = 1;" ∷ codes "  minor = 8;" ∷ [])
    ++ (codes "  uuid = \"" ++ (hyphenated_text lower uuid ++ (codes "\";\n" ++ packet_header_text)))

-- the clock, and the type of moments
abbrev pub clock_text : List ℕ
clock_text =
    lines (
    codes "clock {"
    ∷ codes "  name = \"moment\";"
    ∷ codes "  freq = 1000000000;"
    ∷ codes "  offset = 0;"
    ∷ codes "};"
    ∷ codes ""
    ∷ codes "typealias integer {"
    ∷ codes "  size = 64; align = 8; signed = false;"
    ∷ codes "  map = clock.moment.value;"
    ∷ codes "} := moment_t;"
    ∷ codes ""
    ∷ []
    )

-- the one class of streams: the packet context, and the event header
abbrev pub stream_text : List ℕ
stream_text =
    lines (
    codes "stream {"
    ∷ codes "  id = 0;"
    ∷ codes "  packet.context := struct {"
    ∷ codes "    moment_t timestamp_begin;"
    ∷ codes "    moment_t timestamp_end;"
    ∷ codes "    uint64_t content_size;"
    ∷ codes "    uint64_t packet_size;"
    ∷ codes "    uint64_t packet_seq_num;"
    ∷ codes "    uint64_t events_discarded;"
    ∷ codes "  };"
    ∷ codes "  event.header := struct {"
    ∷ codes "    uint32_t kind;"
    ∷ codes "    moment_t timestamp;"
    ∷ codes "  };"
    ∷ codes "};"
    ∷ codes ""
    ∷ []
    )

-- the one class of events: the fields of a record
abbrev pub event_text : List ℕ
event_text =
    lines (
    codes "event {"
    ∷ codes "  name = \"record\";"
    ∷ codes "  stream_id = 0;"
    ∷ codes "  fields := struct {"
    ∷ codes "    uint64_t serial;"
    ∷ codes "    uint32_t len;"
    ∷ codes "    uint8_t payload[len];"
    ∷ codes "  };"
    ∷ codes "};"
    ∷ []
    )

-- the metadata of the trace with this identifier
abbrev pub metadata_of : List ℕ → List ℕ
metadata_of uuid = preface_text ++ (trace_text uuid ++ (clock_text ++ (stream_text ++ event_text)))
