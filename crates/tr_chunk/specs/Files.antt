-- The files of a trace chunk: their names, and what is written to them.
use Rattle.std.specs.Prelude.{◌≡◌, ◌≢◌, ℕ, ◌≤◌, List, [], ◌∷◌, ◌++◌, length, take, Option, Result, Ok, Err}
use Rattle.std.specs.Fmt.{decimal}
use Rattle.tr_chunk.specs.declared.faults.WriteFault.{WriteFault}
use Rattle.tr_chunk.specs.declared.faults.WriteFault.TheVariants.{Write, NoMemory}
use Rattle.tr_record.specs.Bytes.{and_then_bytes, once_more}
use Rattle.tr_record.specs.declared.bytes.ByteSink as Sink
use Rattle.tr_packet.specs.Packets.{Contents}
pub use Rattle.tr_packet.specs.Texts.{packets_text}

-- the channel's name, an underscore and the stream's number
abbrev pub file_name : List ℕ → ℕ → List ℕ
file_name channel stream = channel ++ (95 ∷ decimal stream)

-- a prefix of the text went out, after what was out before
abbrev pub WentOut : Option (List ℕ) → Option (List ℕ) → List ℕ → Type 0
WentOut before after text = (k : ℕ) × (k ≤ length text) × (after ≡ and_then_bytes before (take k text))

-- what is known of a sink at one step: what it took, and how often it failed
pub record Sunk : Type 0 where
  pub taken : Option (List ℕ)
  pub failures : ℕ

abbrev pub sunk_of : {K : Type 0} → Sink.Ghosts K → K → Sunk
sunk_of sinks sink = record { taken = sinks.taken sink; failures = sinks.failures sink }

-- a call that writes this text: all of it went out; or one failure came and a prefix of it went out; or an allocation failed,
-- nothing of it went out and no failure came
abbrev pub WritesText : List ℕ → Sunk → Sunk → Result (Unit {0}) WriteFault → Type 0
WritesText text before after (Ok done) =
    (after.taken ≡ and_then_bytes before.taken text) × (after.failures ≡ before.failures)
WritesText text before after (Err Write) =
    WentOut before.taken after.taken text × (after.failures ≡ once_more before.failures)
WritesText text before after (Err NoMemory) =
    (after.taken ≡ before.taken) × (after.failures ≡ before.failures)

-- a call that writes a text that is in memory: all of it went out; or one failure came and a prefix of it went out. It
-- takes no memory, and if the text is empty nothing fails.
abbrev pub WritesStanding : List ℕ → Sunk → Sunk → Result (Unit {0}) WriteFault → Type 0
WritesStanding text before after (Ok done) =
    (after.taken ≡ and_then_bytes before.taken text) × (after.failures ≡ before.failures)
WritesStanding text before after (Err Write) =
    (text ≢ []) × WentOut before.taken after.taken text × (after.failures ≡ once_more before.failures)
WritesStanding text before after (Err NoMemory) = ⊥

-- the same for the texts of packets, one after another
abbrev pub WritesPackets : List Contents → Sunk → Sunk → Result (Unit {0}) WriteFault → Type 0
WritesPackets packets before after result = WritesStanding (packets_text packets) before after result
