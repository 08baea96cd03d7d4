-- Which trace an image names: by the metadata of a file of rings, wherever one begins in it.
use Rattle.std.specs.Prelude.{ℕ, zero, suc, ◌+◌, Bool, true, nat_le, List, [], ◌∷◌, ◌++◌, codes, length, take, drop, Option, Some, None, if◌then◌else◌}
use Rattle.std.specs.Int.{w64}
use Rattle.std.specs.Option.{option_and_then, option_or}
use Rattle.std.specs.Str.{bytes_eq}
use Rattle.tr_metadata.specs.Recovery.{behind_front}
use Rattle.tr_metadata.specs.declared.metadata.TheConstants.{LONGEST_METADATA}
use Rattle.tr_packet.specs.Metadata.{metadata_of}
use Rattle.tr_record.specs.Reading.{◌>>=◌, number_at}
use Rattle.tr_survey.specs.Metadata.{naming_by}
use Rattle.tr_survey.specs.declared.naming.Naming.{Naming}
use Rattle.tr_survey.specs.declared.naming.Naming.TheVariants.{Unfinished, Unreadable, NoUuid, Other, Named}

-- a trace: its identifier, and the text by which its records are read
pub record TraceState : Type 0 where
  pub uuid : List ℕ
  pub metadata : List ℕ

-- a trace of which nothing is declared
abbrev pub untyped : List ℕ → TraceState
untyped uuid = record { uuid = uuid; metadata = metadata_of uuid }

-- what a file of rings begins with, before the place and the size of its metadata
abbrev pub opening : List ℕ
opening = codes "tracerd rings 1" ++ 0 ∷ []

-- the part of bytes at a place, of a size, if they have it
abbrev pub part_at : (place size : ℕ) → List ℕ → Option (List ℕ)
part_at place size bytes = if nat_le (place + size) (length bytes) then Some (take size (drop place bytes)) else None

-- the metadata to which bytes open
unfoldable pub opened : List ℕ → Option (List ℕ)
opened bytes = do
  rest ← behind_front opening bytes
  place ← number_at w64 rest
  size ← number_at w64 place.1
  part_at place.0 size.0 bytes

-- a trace is the one that is wanted, or any is
abbrev pub is_wanted : Option (List ℕ) → List ℕ → Bool
is_wanted None uuid = true
is_wanted (Some own) uuid = bytes_eq own uuid

abbrev pub trace_named : Option (List ℕ) → List ℕ → Naming → Option TraceState
trace_named wanted text Unfinished = None
trace_named wanted text Unreadable = None
trace_named wanted text NoUuid = None
trace_named wanted text (Other uuid) = None
trace_named wanted text (Named uuid) = if is_wanted wanted uuid then Some (record { uuid = uuid; metadata = text }) else None

-- the trace that a text names, if it is the recorder's metadata
abbrev pub trace_of : Option (List ℕ) → List ℕ → Option TraceState
trace_of wanted text = trace_named wanted text (naming_by text)

-- how many bytes from an opening on are looked at for its metadata: it has 32
abbrev pub reach : ℕ
reach = 32 + LONGEST_METADATA

-- the trace to whose metadata bytes open
abbrev pub trace_at : Option (List ℕ) → List ℕ → Option TraceState
trace_at wanted bytes = option_and_then (trace_of wanted) (opened (take reach bytes))

-- the first one that an image names, by its places
abbrev pub trace_in : Option (List ℕ) → List ℕ → Option TraceState
trace_in wanted [] = None
trace_in wanted (b ∷ bytes) = option_or (trace_at wanted (b ∷ bytes)) (trace_in wanted bytes)

-- the first one at one of the first places
abbrev pub trace_before : ℕ → Option (List ℕ) → List ℕ → Option TraceState
trace_before n wanted [] = None
trace_before zero wanted (b ∷ bytes) = None
trace_before (suc n) wanted (b ∷ bytes) = option_or (trace_at wanted (b ∷ bytes)) (trace_before n wanted bytes)
