-- An audit in any pieces: what a reader knows of the bytes that it was fed.
use Rattle.std.specs.Prelude.{◌≡◌, ℕ, ◌+◌, ◌^◌, ◌<◌, ◌≤◌, List, ◌∷◌, ◌++◌, length, map, take, Option, Some, None, Result, Ok, Err}
use Rattle.std.specs.Borrow.{Bor}
use Rattle.std.specs.List.{flat_map}
use Rattle.tr_packet.specs.Decoding.{first_fault}
use Rattle.tr_packet.specs.Packets.{Contents}
use Rattle.tr_packet.specs.declared.faults.PacketFault.TheVariants.{Short}
use Rattle.tr_chunk.specs.Audit.{StopsAt, Tells, all_of}
use Rattle.tr_chunk.specs.Files.{packets_text}
use Rattle.tr_chunk.specs.declared.audit_fault.AuditCause.{AuditCause}
use Rattle.tr_chunk.specs.declared.audit_fault.AuditFault.{AuditFault}
use Rattle.tr_chunk.specs.declared.stream_audit.StreamAudit.{StreamAudit}
use Rattle.tr_chunk.specs.declared.audit_reader.TheConstants.{FIRST_ROOM}

-- a reader: the trace and the stream that it audits, the audit of the whole packets so far, the bytes after them in this
-- piece and the place where these begin, how many bytes it was fed, how many pieces were begun, and the fault that it met
pub record Reading (A : Type 0) : Type 0 where
  pub uuid : List ℕ
  pub stream : ℕ
  pub audit : StreamAudit A
  pub held : List ℕ
  pub offset : ℕ
  pub bytes : ℕ
  pub pieces : ℕ
  pub fault : Option AuditFault

abbrev pub reading : {A : Type 0} → List ℕ → ℕ → StreamAudit A → List ℕ → ℕ → ℕ → ℕ → Option AuditFault → Reading A
reading uuid stream audit held offset bytes pieces fault = record {
  uuid = uuid;
  stream = stream;
  audit = audit;
  held = held;
  offset = offset;
  bytes = bytes;
  pieces = pieces;
  fault = fault;
}

-- the decoder's first fault of the bytes is that they are too few: nothing is judged before all of a header and context are
-- there, and nothing after these before the packet is whole
abbrev pub Waits : List ℕ → Type 0
Waits bytes = first_fault bytes ≡ Some Short

-- what a reader keeps to
pub record Keeps {A : Type 0} (r : Reading A) (capacity : ℕ) : Type 0 where
  pub waits : Waits r.held
  pub room : FIRST_ROOM ≤ capacity
  pub within : r.offset + length r.held ≤ r.bytes
  pub few : r.bytes < 2 ^ 62
  pub begun : 0 < r.pieces

-- the pieces that are done are packets of the stream, and so is this one up to the bytes that are held
pub record IsAt {A : Type 0} (uuid : List ℕ) (stream : ℕ) (done : List (List ℕ)) (piece : List ℕ) (audit : StreamAudit A)
    (held : List ℕ) (offset : ℕ) : Type 0 where
  pub before : List (List Contents)
  pub here : List Contents
  pub texts : done ≡ map packets_text before
  pub text : piece ≡ packets_text here ++ held
  pub place : offset ≡ length (packets_text here)
  pub tells : Tells uuid stream (all_of before ++ here) audit

-- the same of a reader
abbrev pub Is : {A : Type 0} → List (List ℕ) → List ℕ → Reading A → Type 0
Is done piece r = IsAt r.uuid r.stream done piece r.audit r.held r.offset

-- a reader stops in these pieces at this fault
abbrev pub ReaderStopsAt : List ℕ → ℕ → List (List ℕ) → AuditFault → Type 0
ReaderStopsAt = StopsAt FIRST_ROOM

-- however this piece goes on, and whatever pieces follow, a reader stops in them at this fault
abbrev pub StopsHowever : List ℕ → ℕ → List (List ℕ) → List ℕ → AuditFault → Type 0
StopsHowever uuid stream done piece fault =
    (more : List ℕ) (others : List (List ℕ)) → ReaderStopsAt uuid stream (done ++ (piece ++ more) ∷ others) fault

-- how many bytes pieces have
abbrev pub bytes_of_pieces : List (List ℕ) → ℕ
bytes_of_pieces pieces = length (flat_map (λ (bytes : List ℕ). bytes) pieces)

-- what a reader says of these pieces, the last of which may go on, if it met this fault or none
abbrev pub Says : {A : Type 0} → List (List ℕ) → List ℕ → Reading A → Option AuditFault → Type 0
Says done piece r None =
    Is done piece r × (r.pieces ≡ length done + 1) × (r.bytes ≡ bytes_of_pieces done + length piece) × Waits r.held
Says done piece r (Some fault) = StopsHowever r.uuid r.stream done piece fault

-- the reader, which audits this stream, was fed these pieces, the last of which may go on. As long as it
-- met no fault, it holds bytes that are too few for a packet, and has counted all
pub record HasRead {A : Type 0} (uuid : List ℕ) (stream : ℕ) (done : List (List ℕ)) (piece : List ℕ) (r : Reading A) : Type 0 where
  pub of_trace : r.uuid ≡ uuid
  pub of_stream : r.stream ≡ stream
  pub says : Says done piece r r.fault

-- what a call answers if a reader has met this fault, or none, after it
abbrev pub answer_at : Option AuditFault → Result (Unit {0}) AuditFault
answer_at None = Ok tt
answer_at (Some fault) = Err fault

-- ---- one step

-- the reader after a step: only what it knows of the front has changed
abbrev pub with_front : {A : Type 0} → Reading A → StreamAudit A → List ℕ → ℕ → Reading A
with_front r audit held offset = record r { audit = audit; held = held; offset = offset }

-- a step took the first `n` of these bytes
pub record Takes {A : Type 0} (before after : Reading A) (bytes : List ℕ) (n : ℕ) : Type 0 where
  pub some : 0 < n
  pub within : n ≤ length bytes
  pub place : after.offset + length after.held ≡ before.offset + length before.held + n
  pub is : (done : List (List ℕ)) (piece : List ℕ) → Is done piece before → Is done (piece ++ take n bytes) after
  pub waits : Waits after.held

-- a step found a fault, whatever follows these bytes
abbrev pub Finds : {A : Type 0} → Reading A → List ℕ → AuditCause → Type 0
Finds r bytes cause =
    (done : List (List ℕ)) (piece : List ℕ) → Is done piece r
    → StopsHowever r.uuid r.stream done (piece ++ bytes) (record { piece = length done; offset = r.offset; cause = cause })

-- ---- pieces that come in feeds

-- the bytes of feeds, end to end
abbrev pub bytes_fed : List (Bor (List ℕ)) → List ℕ
bytes_fed = flat_map (λ (feed : Bor (List ℕ)). feed.now)

-- the pieces whole
abbrev pub pieces_fed : List (Bor (List (Bor (List ℕ)))) → List (List ℕ)
pieces_fed = map (λ (feeds : Bor (List (Bor (List ℕ)))). bytes_fed feeds.now)
