-- The audit of one stream's packets.
use Rattle.std.specs.Prelude.{◌≡◌, ◌≢◌, ℕ, ◌+◌, ◌-◌, ◌^◌, ◌<◌, ◌/◌, ◌⊎◌, Bool, true, ◌&&◌, not, nat_eq, nat_le, nat_lt, IsTrue, List, [], ◌∷◌, ◌++◌, length, map, take, drop, min, slice_get, Option, Some, None, unwrap_or, if◌then◌else◌}
use Rattle.std.specs.List.{AllByRecursion, flat_map, last_or, list_any}
use Rattle.std.specs.Cmp.Lexicographic.{pointwise}
use Rattle.tr_record.specs.Records.{Entry}
use Rattle.tr_packet.specs.Decoding.{Begins, fields_fault, first_fault, packet_bits_in}
use Rattle.tr_packet.specs.Order.{follows, serials_rise}
use Rattle.tr_packet.specs.Packets.{Contents, IsPacket}
use Rattle.tr_chunk.specs.Files.{packets_text}
use Rattle.tr_chunk.specs.declared.audit_fault.AuditCause.{AuditCause}
use Rattle.tr_chunk.specs.declared.audit_fault.AuditCause.TheVariants.{Packet, NumberRepeat, SerialRepeat, Foreign, NoMemory}
use Rattle.tr_chunk.specs.declared.audit_fault.AuditFault.{AuditFault}
use Rattle.tr_chunk.specs.declared.stream_audit.StreamAudit.{StreamAudit}

-- ---- what packets show

abbrev pub numbers_of : List Contents → List ℕ
numbers_of = map (λ (p : Contents). p.head.seq)

abbrev pub serials_of : List Entry → List ℕ
serials_of = map (λ (e : Entry). e.serial)

-- the records of packets, in order
abbrev pub records_of_packets : List Contents → List Entry
records_of_packets = flat_map (λ (p : Contents). p.records)

abbrev pub last_number : List Contents → Option ℕ
last_number ps = last_or None (numbers_of ps)

abbrev pub last_serial : List Contents → Option ℕ
last_serial ps = last_or None (serials_of (records_of_packets ps))

-- the numbers that are absent between two numbers, or below the first one: the first of them, and how many
abbrev pub gap_before : Option ℕ → ℕ → List (ℕ × ℕ)
gap_before None n = if nat_lt 0 n then (0, n) ∷ [] else []
gap_before (Some before) n = if nat_lt (before + 1) n then (before + 1, n - (before + 1)) ∷ [] else []

-- the absent numbers below the last of rising numbers, in runs as long as they can be
abbrev pub gaps_behind : Option ℕ → List ℕ → List (ℕ × ℕ)
gaps_behind before [] = []
gaps_behind before (n ∷ ns) = gap_before before n ++ gaps_behind (Some n) ns

-- the number is one of a run
abbrev pub is_in_run : ℕ → ℕ × ℕ → Bool
is_in_run k run = nat_le run.0 k && nat_lt k (run.0 + run.1)

-- the number is in one of the runs
abbrev pub is_in_runs : ℕ → List (ℕ × ℕ) → Bool
is_in_runs k = list_any (is_in_run k)

-- the number is one of these
abbrev pub is_one_of : ℕ → List ℕ → Bool
is_one_of k = list_any (nat_eq k)

-- a run isn't empty; one of these numbers comes right after it, and one right before it unless it begins at 0
pub record IsLongest (ns : List ℕ) (run : ℕ × ℕ) : Type 0 where
  pub some : 0 < run.1
  pub behind : IsTrue (is_one_of (run.0 + run.1) ns)
  pub before : 0 < run.0 → IsTrue (is_one_of (run.0 - 1) ns)

-- a count that stops at the greatest u64
abbrev pub capped_count : ℕ → ℕ
capped_count n = min n (2 ^ 64 - 1)

-- the audit of these packets
abbrev pub audit_of : {A : Type 0} → List Contents → StreamAudit A
audit_of ps = record {
  packets = capped_count (length ps);
  records = capped_count (length (records_of_packets ps));
  gaps = gaps_behind None (numbers_of ps);
  last_seq = last_number ps;
  last_serial = last_serial ps;
  last_lost = unwrap_or (last_or None (map (λ (p : Contents). p.head.lost) ps)) 0;
}

-- ---- packets of one stream

-- the packet is of this trace and this stream
abbrev pub belongs : List ℕ → ℕ → Contents → Bool
belongs uuid stream p = pointwise nat_eq p.head.uuid uuid && nat_eq p.head.stream stream

abbrev pub BelongsTo : List ℕ → ℕ → Contents → Type 0
BelongsTo uuid stream p = IsTrue (belongs uuid stream p)

-- numbers rise strictly, the first one above the one before it, if any
abbrev pub numbers_rise_after : Option ℕ → List ℕ → Bool
numbers_rise_after before [] = true
numbers_rise_after before (n ∷ ns) = follows before n && numbers_rise_after (Some n) ns

-- packets of one stream, with rising numbers and rising serials
pub record AreOfStream (uuid : List ℕ) (stream : ℕ) (ps : List Contents) : Type 0 where
  pub packets : AllByRecursion IsPacket ps
  pub belong : AllByRecursion (BelongsTo uuid stream) ps
  pub numbers : IsTrue (numbers_rise_after None (numbers_of ps))
  pub serials : IsTrue (serials_rise (records_of_packets ps))

-- ---- the first fault

-- the first serial comes after the one before it, if any
abbrev pub starts_above : Option ℕ → List Entry → Bool
starts_above before [] = true
starts_above before (e ∷ es) = follows before e.serial

-- what is wrong with a packet that follows packets of the stream with this last number and this last serial
abbrev pub packet_cause : List ℕ → ℕ → Option ℕ → Option ℕ → Contents → Option AuditCause
packet_cause uuid stream number serial p =
    if not (belongs uuid stream p) then Some Foreign
    else if not (follows number p.head.seq) then Some NumberRepeat
    else if not (starts_above serial p.records) then Some SerialRepeat
    else None

-- the bytes start with a packet of the stream, and numbers are absent right before its own: an audit takes memory for these
pub record TakesMemory (uuid : List ℕ) (stream : ℕ) (number serial : Option ℕ) (bytes : List ℕ) : Type 0 where
  pub packet : Contents
  pub rest : List ℕ
  pub begins : Begins packet rest bytes
  pub right : packet_cause uuid stream number serial packet ≡ None
  pub absent : gap_before number packet.head.seq ≢ []

-- the header and the context at the front are right, and say that the packet has more than `room` bytes
pub record IsLarger (room : ℕ) (bytes : List ℕ) : Type 0 where
  pub fields : fields_fault bytes ≡ None
  pub more : room < packet_bits_in bytes / 8

-- why an audit stops at these bytes: they don't start with a packet, or it is at fault, or else an allocation failed. It has
-- room for packets of `room` bytes, and asks for more only at a larger one
abbrev pub IsCause : ℕ → List ℕ → ℕ → Option ℕ → Option ℕ → AuditCause → List ℕ → Type 0
IsCause room uuid stream number serial NoMemory bytes = TakesMemory uuid stream number serial bytes ⊎ IsLarger room bytes
IsCause room uuid stream number serial (Packet f) bytes = first_fault bytes ≡ Some f
IsCause room uuid stream number serial cause bytes =
    (p : Contents) × (rest : List ℕ) × Begins p rest bytes × (packet_cause uuid stream number serial p ≡ Some cause)

-- in a piece after packets of the stream, the audit stops at this byte: such packets are before it, and here is the cause
pub record StopsIn (room : ℕ) (uuid : List ℕ) (stream : ℕ) (before : List Contents) (bytes : List ℕ) (offset : ℕ)
    (cause : AuditCause) : Type 0 where
  pub here : List Contents
  pub within : offset < length bytes
  pub texts : take offset bytes ≡ packets_text here
  pub sound : AreOfStream uuid stream (before ++ here)
  pub is_cause : IsCause room uuid stream (last_number (before ++ here)) (last_serial (before ++ here)) cause
      (drop offset bytes)

-- the packets of all pieces, in order
abbrev pub all_of : List (List Contents) → List Contents
all_of = flat_map (λ (ps : List Contents). ps)

-- an audit that has room for packets of `room` bytes stops in this piece, and the pieces before it are packets of the stream
pub record StopsAt (room : ℕ) (uuid : List ℕ) (stream : ℕ) (pieces : List (List ℕ)) (fault : AuditFault) : Type 0 where
  pub before : List (List Contents)
  pub bytes : List ℕ
  pub texts : take fault.piece pieces ≡ map packets_text before
  pub piece : slice_get pieces fault.piece ≡ Some bytes
  pub stop : StopsIn room uuid stream (all_of before) bytes fault.offset fault.cause

-- each piece is these packets' texts end to end, and all of them are the stream's
pub record AreAudited (uuid : List ℕ) (stream : ℕ) (pieces : List (List ℕ)) (pss : List (List Contents)) : Type 0 where
  pub texts : pieces ≡ map packets_text pss
  pub sound : AreOfStream uuid stream (all_of pss)

-- ---- one more packet

-- the audit after one more packet
abbrev pub after_packet : {A : Type 0} → StreamAudit A → Contents → StreamAudit A
after_packet a p = record {
  packets = capped_count (a.packets + 1);
  records = capped_count (a.records + length p.records);
  gaps = a.gaps ++ gap_before a.last_seq p.head.seq;
  last_seq = Some p.head.seq;
  last_serial = last_or a.last_serial (serials_of p.records);
  last_lost = p.head.lost;
}

-- the audit is that of these packets, which are the stream's
pub record Tells {A : Type 0} (uuid : List ℕ) (stream : ℕ) (ps : List Contents) (a : StreamAudit A) : Type 0 where
  pub sound : AreOfStream uuid stream ps
  pub is : a ≡ audit_of ps
