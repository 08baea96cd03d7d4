-- A packet is read as its records.
use Rattle.std.proofs.Common.{◌≡◌, ℕ, zero, suc, ◌+◌, ◌/◌, ◌≤◌, false, eqb, List, [], ◌∷◌, ◌++◌, map, length, take, drop, Some, refl, ap, ◌∙◌, length-append, arith}
use Rattle.std.specs.List.{AllByRecursion, flat_map}
use Rattle.std.proofs.lemmas.Bool.{ne_eqb}
use Rattle.std.proofs.lemmas.List.{take_at, drop_at, drop-take}
use Rattle.tr_record.specs.Records.{Entry, record_text, records_text, Fits}
use Rattle.tr_record.proofs.RecordLemmas.{length-record_text, weight_of-records_text}
use Rattle.tr_packet.specs.Decoding.{content_bits_in, packet_bits_in}
use Rattle.tr_packet.proofs.DecodingLemmas as decoding
use Rattle.tr_packet.proofs.TextLemmas.{length-packet_text}
use Rattle.tr_packet.specs.Packets.{Contents, packet_text, packet_size, IsPacket}
use Rattle.tr_packet.specs.Texts.{HeadFits}
use Rattle.tr_packet.proofs.LayoutLemmas.{fields_read}
use Rattle.tr_packet.proofs.OrderLemmas.{in_order-within, moments_hold_says}
use Rattle.tr_terms.specs.declared.limits.TheConstants.{PACKET_HEADER}
use Rattle.tr_events.specs.Events.{Event, AreEvents, FitsAsDeclared}
use Rattle.tr_metadata.specs.Reader.{events_up_to, packet_read, packets_up_to, file_read, read_of, reads_of, IsReadable}
use Rattle.tr_metadata.proofs.EventLemmas.{event_read}

-- with a number to count down that is as great as their length
records_read : (events : List Event) (es : List Entry) (k : ℕ) → AreEvents events → AllByRecursion Fits es
    → AllByRecursion (FitsAsDeclared events) es → length (records_text es) ≤ k
    → events_up_to events k (records_text es) ≡ Some (map (read_of events) es)
unfolding events_up_to
records_read events [] zero all fits declared le = refl
records_read events [] (suc k) all fits declared le = refl
records_read events (e ∷ es) zero all fits declared le =
    absurd (omega (arith, length-append (record_text e) (records_text es), length-record_text e))
records_read events (e ∷ es) (suc k) all fits declared le =
    let bytes = records_text (e ∷ es) in
    let long = length-append (record_text e) (records_text es) in
    let some : eqb (length bytes) 0 ≡ false = ne_eqb (length bytes) 0 (λ none. omega (arith, long, length-record_text e)) in
    let first = event_read events e (records_text es) all fits.0 declared.0 in
    let others = records_read events es k all fits.1 declared.1 (omega (arith, long, length-record_text e)) in
    rw (some, first, others) refl

pub packets_read : (events : List Event) (p : Contents) (rest : List ℕ) → AreEvents events → IsPacket p
    → AllByRecursion (FitsAsDeclared events) p.records
    → packet_read events (packet_text p ++ rest) ≡ Some (map (read_of events) p.records)
unfolding packet_read
packets_read events p rest are packet declared =
    let bytes = packet_text p ++ rest in
    let made = packet.records in
    let m = moments_hold_says p.head.begin p.head.end p.records made.moments in
    let order = in_order-within p.head.begin p.head.end p.records m.order in
    let fits : HeadFits p.head = record {
      uuid = packet.uuid;
      stream = packet.stream;
      begin = omega (arith, order, m.limit);
      end = omega (arith, m.limit);
      seq = packet.seq;
      lost = packet.lost;
    } in
    let f = fields_read p rest bytes refl fits (omega (arith, made.small)) in
    let size : content_bits_in bytes / 8 ≡ packet_size p = omega (arith, f.content) in
    let text = records_text p.records in
    let len : packet_size p ≡ PACKET_HEADER + length text = weight_of-records_text p.records in
    let content : drop PACKET_HEADER (take (content_bits_in bytes / 8) bytes) ≡ text =
    ap (λ (n : ℕ). drop PACKET_HEADER (take n bytes)) (size ∙ len)
    ∙ drop-take PACKET_HEADER (length text) bytes
    ∙ ap (take (length text)) f.tail
    ∙ take_at text rest (length text) refl in
    ap (λ (t : List ℕ). events_up_to events (length t) t) content
    ∙ records_read events p.records (length text) are made.fits declared (omega arith)

-- ---- a file of packets

sized : (p : Contents) (rest : List ℕ) → IsPacket p → packet_bits_in (packet_text p ++ rest) / 8 ≡ packet_size p
sized p rest packet = (decoding.packet_read p rest (packet_text p ++ rest) (record { packet = packet; parts = refl })).size

packets_read_up_to : (events : List Event) (ps : List Contents) (k : ℕ) → AreEvents events → AllByRecursion (IsReadable events) ps
    → length (flat_map packet_text ps) ≤ k → packets_up_to events k (flat_map packet_text ps) ≡ Some (flat_map (reads_of events) ps)
unfolding packets_up_to
packets_read_up_to events [] zero are all le = refl
packets_read_up_to events [] (suc k) are all le = refl
packets_read_up_to events (p ∷ ps) zero are all le =
    let size = length-packet_text p all.0.packet.uuid in
    absurd (omega (arith, length-append (packet_text p) (flat_map packet_text ps), size, weight_of-records_text p.records))
packets_read_up_to events (p ∷ ps) (suc k) are all le =
    let rest = flat_map packet_text ps in
    let bytes = packet_text p ++ rest in
    let size = length-packet_text p all.0.packet.uuid in
    let weight = weight_of-records_text p.records in
    let long = length-append (packet_text p) rest in
    let some : eqb (length bytes) 0 ≡ false = ne_eqb (length bytes) 0 (λ none. omega (arith, long, size, weight)) in
    let first = packets_read events p rest are all.0.packet all.0.declared in
    let behind : drop (packet_bits_in bytes / 8) bytes ≡ rest =
    ap (λ (n : ℕ). drop n bytes) (sized p rest all.0.packet) ∙ drop_at (packet_text p) rest (packet_size p) size in
    let others = packets_read_up_to events ps k are all.1 (omega (arith, long, size, weight)) in
    rw (some, first, behind, others) refl

pub files_read : (events : List Event) (ps : List Contents) → AreEvents events → AllByRecursion (IsReadable events) ps
    → file_read events (flat_map packet_text ps) ≡ Some (flat_map (reads_of events) ps)
unfolding file_read
files_read events ps are all = packets_read_up_to events ps (length (flat_map packet_text ps)) are all (omega arith)
