-- The stores of the calls that change a page, one after another, and what stands in memory between them.
use Rattle.std.specs.Prelude.{ℕ, ◌+◌, ◌*◌, List, [], ◌∷◌, ◌++◌, length, take, drop}
use Rattle.std.specs.Int.{w64, to_le_bytes}
use Rattle.tr_packet.specs.Decoding.{Begins, bytes_from}
use Rattle.tr_packet.specs.Packets.{Contents, context_text, header_text}
use Rattle.tr_packet.specs.declared.head.Head.{Head}
use Rattle.tr_packet.specs.declared.layout.TheConstants.{CONTENT_SIZE_AT, END_AT, PACKET_SIZE_AT, SEQ_AT}
use Rattle.tr_record.specs.Records.{Entry, record_text}
use Rattle.tr_record.specs.Weight.{record_weight}
use Rattle.tr_terms.specs.declared.limits.TheConstants.{PACKET_HEADER}

-- memory whose content_size stands for its packet_size too
abbrev pub committed : List ℕ → List ℕ
committed memory = take PACKET_SIZE_AT memory ++ (bytes_from 8 CONTENT_SIZE_AT memory ++ drop SEQ_AT memory)

-- a packet stands at the front of memory: by the decoder's rules, but that it is as large as its content
pub record Stands (p : Contents) (memory : List ℕ) : Type 0 where
  pub rest : List ℕ
  pub begins : Begins p rest (committed memory)

-- no packet stands there
abbrev pub NoneStands : List ℕ → Type 0
NoneStands memory = (p : Contents) → Stands p memory → ⊥

-- bytes that are written from a place on
pub record Store : Type 0 where
  pub place : ℕ
  pub bytes : List ℕ

abbrev pub store : ℕ → List ℕ → Store
store place bytes = record { place = place; bytes = bytes }

abbrev pub after_store : Store → List ℕ → List ℕ
after_store s memory = take s.place memory ++ (s.bytes ++ drop (s.place + length s.bytes) memory)

abbrev pub after_stores : List Store → List ℕ → List ℕ
after_stores [] memory = memory
after_stores (s ∷ ss) memory = after_stores ss (after_store s memory)

-- a record is put behind so many bytes: its text, the packet's end, and its size, of which the first word is the one that counts
abbrev pub put_stores : ℕ → Entry → List Store
put_stores used e =
    let size = to_le_bytes w64 (8 * (used + record_weight e)) in
    store used (record_text e) ∷ store END_AT (to_le_bytes w64 e.moment) ∷ store CONTENT_SIZE_AT size ∷ store PACKET_SIZE_AT size ∷ []

-- a first record is put behind a packet's header and context, of the size 0 until the record is there
abbrev pub begin_stores : Head → Entry → List Store
begin_stores h e = store 0 (header_text h ++ context_text h 0) ∷ put_stores PACKET_HEADER e
