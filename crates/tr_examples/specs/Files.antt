-- Packets, names and files, worked out by hand.
use Rattle.std.specs.Prelude.{ℕ, List, [], ◌∷◌, ◌++◌, Some, None, map, replicate, slice_get}
use Rattle.std.specs.Option.{option_map_or}
use Rattle.tr_book.specs.Parts.{PartState}
use Rattle.tr_chunk.specs.Files.{packets_text}
use Rattle.tr_chunk.specs.declared.stream_audit.StreamAudit.{StreamAudit}
use Rattle.tr_console.specs.Runs.{world_left}
use Rattle.tr_events.specs.Events.{nothing}
use Rattle.tr_examples.specs.Rotations.{archives_script}
use Rattle.tr_packet.specs.Packets.{Contents}
use Rattle.tr_record.specs.Records.{Entry, entry}
use Rattle.tr_session.specs.Session.{SessionOf}
use Rattle.tr_stream.specs.Rules.{Traced, by_history}

-- the packets of chunk 0 of a session's first stream
abbrev pub chunk_in : SessionOf Traced → List Contents
chunk_in s = option_map_or (λ (t : Traced). option_map_or (λ (part : PartState). part.packets) (by_history.part 0 t) [])
    (slice_get s.streams 0) []

-- those of the first session that a script leaves
abbrev pub first_chunk : List ℕ → List Contents
first_chunk script = option_map_or (λ (entry : List ℕ × SessionOf Traced). chunk_in entry.1)
    (slice_get (world_left nothing script).sessions 0) []

-- what is compared of a packet: its number, the number of discarded records, and its records' serials
abbrev pub outline : Contents → ℕ × (ℕ × List ℕ)
outline p = (p.head.seq, (p.head.lost, map (λ (e : Entry). e.serial) p.records))

-- the file of that chunk of the example with archives
abbrev pub archived_file : List ℕ
archived_file = packets_text (first_chunk archives_script)

-- the audit of two packets with five records
abbrev pub archived_audit : {A : Type 0} → StreamAudit A
archived_audit = record {
  packets = 2;
  records = 5;
  gaps = [];
  last_seq = Some 1;
  last_serial = Some 5;
  last_lost = 1;
}

-- and of three, when the first and the third packet are absent
abbrev pub gaps_audit : {A : Type 0} → StreamAudit A
gaps_audit = record {
  packets = 3;
  records = 6;
  gaps = (0, 1) ∷ (2, 1) ∷ [];
  last_seq = Some 4;
  last_serial = Some 9;
  last_lost = 0;
}

-- and of no packet
abbrev pub empty_audit : {A : Type 0} → StreamAudit A
empty_audit = record { packets = 0; records = 0; gaps = []; last_seq = None; last_serial = None; last_lost = 0 }

-- a trace's identifier
abbrev pub trace : List ℕ
trace = replicate 15 0 ++ 1 ∷ []

-- a packet of one record, with one byte of payload
abbrev pub one_record : Contents
one_record = record {
  head = record { uuid = trace; stream = 0; begin = 1; end = 9; seq = 0; lost = 0 };
  records = entry 0 1 7 (65 ∷ []) ∷ [];
}

-- its 105 bytes
abbrev pub one_record_bytes : List ℕ
one_record_bytes =
    0xC1 ∷ 0x1F ∷ 0xFC ∷ 0xC1 ∷ (
    trace
    ++ (replicate 12 0
    ++ (1 ∷ replicate 7 0
    ++ (9 ∷ replicate 7 0
    ++ (0x48 ∷ 0x03 ∷ replicate 6 0
    ++ (0x48 ∷ 0x03 ∷ replicate 6 0
    ++ (replicate 16 0
    ++ (7 ∷ replicate 3 0
    ++ (1 ∷ replicate 7 0
    ++ (replicate 8 0
    ++ (1 ∷ replicate 3 0
    ++ (65 ∷ []))))))))))))
