-- What is decoded is a packet's text, and a packet's text is decoded.
use Rattle.std.proofs.Common.{◌≡◌, ℕ, ◌+◌, ◌*◌, ◌/◌, ◌%◌, ◌<◌, ◌≤◌, Bool, true, false, not, cond, ◌&&◌, leb, ltb, eqb, List, [], ◌∷◌, ◌++◌, length, take, drop, Option, Some, None, refl, sym, ap, subst, ◌∙◌, append_assoc, length-append, arith, ◌⊎◌, inl, inr}
use Rattle.std.specs.Prelude.{IsTrue, Result, Ok, Err, unwrap_or}
use Rattle.std.specs.Cmp.Lexicographic.{same_text}
use Rattle.std.specs.Int.{w64}
use Rattle.std.specs.List.{AllByRecursion, starts_with}
use Rattle.std.specs.Option.{option_or}
use Rattle.std.proofs.lemmas.Bool.{leb-true, le-leb, lt-leb, ltb-false, le-ltb, eqb-true, eq-eqb, false≢true}
use Rattle.std.proofs.lemmas.List.{take_at, drop-take, drop-append-le, take-append-drop, length-take, length-drop}
use Rattle.std.proofs.lemmas.List.Sums.{sum_by-cons}
use Rattle.tr_record.specs.Records.{Entry, records_text, HasText, Fits}
use Rattle.tr_record.specs.Weight.{record_weight, weight_of}
use Rattle.tr_record.specs.Whole.{AreBytes, AreRecords, AreWhole, entries_at, entries_of}
use Rattle.tr_record.proofs.Fields.{AreBytes-take, AreBytes-drop, numeral_64}
use Rattle.tr_record.proofs.RecordLemmas.{all_weaken, fits_has_text, weight_of-records_text}
use Rattle.tr_record.proofs.WholeLemmas.{at_records, records_at, records_of}
use Rattle.tr_packet.specs.Order.{serials_rise, last_serial_after, starts_at, in_order, moments_hold}
use Rattle.tr_packet.specs.Packets.{Contents, magic, header_text, context_text, packet_text, packet_size, IsPacket}
use Rattle.tr_packet.specs.Decoding.{Begins, number_from, bytes_from, stream_id_in, begin_in, end_in, content_bits_in, packet_bits_in, body_in, contents_in, sizes_hold, fields_fault, front_fault, records_fault, first_fault}
use Rattle.tr_packet.specs.Seen.{verdict, verdict_on}
use Rattle.tr_packet.specs.declared.faults.PacketFault.{PacketFault}
use Rattle.tr_packet.specs.declared.faults.PacketFault.TheVariants.{Short, BadMagic, BadStreamId, BadSize, BadRecord, SerialOrder, MomentOrder}
use Rattle.tr_packet.specs.declared.head.Head.{Head}
use Rattle.tr_packet.specs.Texts.{HeadFits}
use Rattle.tr_packet.proofs.LayoutLemmas.{fields_read, fields_stand}
use Rattle.tr_packet.proofs.TextLemmas.{length-packet_text}
use Rattle.tr_packet.proofs.OrderLemmas.{both, first_holds, second_holds, in_order-within, moments_hold_says}
use Rattle.tr_terms.specs.declared.limits.TheConstants.{LARGEST_PACKET, LAST_MOMENT, PACKET_HEADER, SMALLEST_PACKET}

-- ---- the front

-- what holds if no fault of the front applies
pub record Passes (bytes : List ℕ) : Type 0 where
  pub long : PACKET_HEADER ≤ length bytes
  pub front : take 4 bytes ≡ magic
  pub id : stream_id_in bytes ≡ 0
  pub sizes : content_bits_in bytes ≡ packet_bits_in bytes
  pub whole : packet_bits_in bytes % 8 ≡ 0
  pub low : 8 * SMALLEST_PACKET ≤ packet_bits_in bytes
  pub high : packet_bits_in bytes ≤ 8 * LARGEST_PACKET
  pub there : packet_bits_in bytes / 8 ≤ length bytes

some_is_none : {A : Type 0} (x : A) → Some x ≡ None → ⊥
some_is_none x e = cc

no_fault : (test : Bool) (f : PacketFault) (o : Option PacketFault) → cond test (Some f) o ≡ None → (test ≡ false) × (o ≡ None)
no_fault true f o e = absurd (some_is_none f e)
no_fault false f o e = (refl, e)

first_none : (f g : Option PacketFault) → option_or f g ≡ None → (f ≡ None) × (g ≡ None)
first_none None g e = (refl, e)
first_none (Some f) g e = absurd (some_is_none f e)

holds : (test : Bool) → not test ≡ false → test ≡ true
holds true e = refl
holds false e = absurd cc

record Sizes (content size : ℕ) : Type 0 where
  same : content ≡ size
  whole : size % 8 ≡ 0
  low : 8 * SMALLEST_PACKET ≤ size
  high : size ≤ 8 * LARGEST_PACKET

sizes_say : (content size : ℕ) → sizes_hold content size ≡ true → Sizes content size
sizes_say content size h =
    let limits = leb (8 * SMALLEST_PACKET) size && leb size (8 * LARGEST_PACKET) in
    let rest = eqb (size % 8) 0 && limits in
    let second = second_holds (eqb content size) rest h in
    let third = second_holds (eqb (size % 8) 0) limits second in
    record {
      same = eqb-true content size (first_holds (eqb content size) rest h);
      whole = eqb-true (size % 8) 0 (first_holds (eqb (size % 8) 0) limits second);
      low = leb-true (8 * SMALLEST_PACKET) size (first_holds (leb (8 * SMALLEST_PACKET) size) (leb size (8 * LARGEST_PACKET)) third);
      high = leb-true size (8 * LARGEST_PACKET) (second_holds (leb (8 * SMALLEST_PACKET) size) (leb size (8 * LARGEST_PACKET)) third);
    }

sizes_from : (content size : ℕ) → Sizes content size → sizes_hold content size ≡ true
sizes_from content size s =
    let limits = leb (8 * SMALLEST_PACKET) size && leb size (8 * LARGEST_PACKET) in
    both (eqb content size) (eqb (size % 8) 0 && limits) (eq-eqb content size s.same)
    (both (eqb (size % 8) 0) limits (eq-eqb (size % 8) 0 s.whole)
    (both (leb (8 * SMALLEST_PACKET) size) (leb size (8 * LARGEST_PACKET)) (le-leb (8 * SMALLEST_PACKET) size s.low) (le-leb size (8 * LARGEST_PACKET) s.high)))

pub front_passes : (bytes : List ℕ) → front_fault bytes ≡ None → Passes bytes
unfolding front_fault fields_fault
front_passes bytes none =
    let sizes = cond (not (sizes_hold (content_bits_in bytes) (packet_bits_in bytes))) (Some BadSize) None in
    let id = cond (not (eqb (stream_id_in bytes) 0)) (Some BadStreamId) sizes in
    let front = cond (not (starts_with eqb bytes magic)) (Some BadMagic) id in
    let parts = first_none (fields_fault bytes) (cond (ltb (length bytes) (packet_bits_in bytes / 8)) (Some Short) None) none in
    let a = no_fault (ltb (length bytes) PACKET_HEADER) Short front parts.0 in
    let b = no_fault (not (starts_with eqb bytes magic)) BadMagic id a.1 in
    let c = no_fault (not (eqb (stream_id_in bytes) 0)) BadStreamId sizes b.1 in
    let d = no_fault (not (sizes_hold (content_bits_in bytes) (packet_bits_in bytes))) BadSize None c.1 in
    let e = no_fault (ltb (length bytes) (packet_bits_in bytes / 8)) Short None parts.1 in
    let s = sizes_say (content_bits_in bytes) (packet_bits_in bytes) (holds (sizes_hold (content_bits_in bytes) (packet_bits_in bytes)) d.0) in
    record {
      long = ltb-false (length bytes) PACKET_HEADER a.0;
      front = sym (same_text magic (take 4 bytes) (sym (holds (starts_with eqb bytes magic) b.0)));
      id = eqb-true (stream_id_in bytes) 0 (holds (eqb (stream_id_in bytes) 0) c.0);
      sizes = s.same;
      whole = s.whole;
      low = s.low;
      high = s.high;
      there = ltb-false (length bytes) (packet_bits_in bytes / 8) e.0;
    }

passed_front : (bytes : List ℕ) → ltb (length bytes) PACKET_HEADER ≡ false → starts_with eqb bytes magic ≡ true → eqb (stream_id_in bytes) 0 ≡ true
    → sizes_hold (content_bits_in bytes) (packet_bits_in bytes) ≡ true
    → ltb (length bytes) (packet_bits_in bytes / 8) ≡ false → front_fault bytes ≡ None
unfolding front_fault fields_fault
passed_front bytes long front id sizes there = rw (long, front, id, sizes, there) refl

pub passes_front : (bytes : List ℕ) → Passes bytes → front_fault bytes ≡ None
passes_front bytes p =
    passed_front bytes (le-ltb (length bytes) PACKET_HEADER p.long)
    (ap (λ (t : List ℕ). starts_with eqb t magic)
    (sym (take-append-drop 4 bytes) ∙ ap (λ (t : List ℕ). t ++ drop 4 bytes) p.front))
    (eq-eqb (stream_id_in bytes) 0 p.id)
    (sizes_from (content_bits_in bytes) (packet_bits_in bytes)
    (record { same = p.sizes; whole = p.whole; low = p.low; high = p.high }))
    (le-ltb (length bytes) (packet_bits_in bytes / 8) p.there)

-- ---- the records

abbrev order_fault : Bool → Bool → Option PacketFault
order_fault serials_rise moments_hold = cond (not serials_rise) (Some SerialOrder) (cond (not moments_hold) (Some MomentOrder) None)

no_order_fault : (rise hold : Bool) → order_fault rise hold ≡ None → (rise ≡ true) × (hold ≡ true)
no_order_fault true true e = (refl, refl)
no_order_fault true false e = absurd (some_is_none MomentOrder e)
no_order_fault false hold e = absurd (some_is_none SerialOrder e)

abbrev failed : PacketFault → Result (ℕ × ℕ) PacketFault
failed f = Err f

abbrev counted : ℕ × ℕ → Result (ℕ × ℕ) PacketFault
counted n = Ok n

err_is_ok : (n : ℕ × ℕ) (f : PacketFault) → failed f ≡ counted n → ⊥
err_is_ok n f e = cc

same_count : (n m : ℕ × ℕ) → counted n ≡ counted m → n ≡ m
same_count n m e = cc

-- records without a fault except for the limit of moments
verdict_ok : (rise starts order limit : Bool) (n : ℕ) (last : Option ℕ) (m : ℕ × ℕ) → verdict rise (starts && order) n last ≡ Ok m
    → (order_fault rise (starts && (order && limit)) ≡ order_fault true limit) × (m ≡ (n, unwrap_or last 0))
verdict_ok true true true limit n last m e = (refl, sym (same_count (n, unwrap_or last 0) m e))
verdict_ok true true false limit n last m e = absurd (err_is_ok m MomentOrder e)
verdict_ok true false order limit n last m e = absurd (err_is_ok m MomentOrder e)
verdict_ok false starts order limit n last m e = absurd (err_is_ok m SerialOrder e)

-- how many records there are, and the last one's serial
abbrev told : List Entry → ℕ × ℕ
told es = (length es, unwrap_or (last_serial_after None es) 0)

pub judged_ok : (begin end : ℕ) (n : ℕ × ℕ) (o : Option (List Entry)) → verdict_on begin end o ≡ Ok n → end ≤ LAST_MOMENT
    → (records_fault begin end o ≡ None) × (n ≡ told (unwrap_or o []))
judged_ok begin end n None e within = absurd (err_is_ok n BadRecord e)
judged_ok begin end n (Some es) e within =
    let v = verdict_ok (serials_rise es) (starts_at begin es) (in_order begin end es) (leb end LAST_MOMENT) (length es)
    (last_serial_after None es) n e in
    (v.0 ∙ ap (order_fault true) (le-leb end LAST_MOMENT within), v.1)

above : (begin end : ℕ) (es : List Entry) → starts_at begin es && in_order begin end es ≡ true
    → (LAST_MOMENT < begin) ⊎ (LAST_MOMENT < end) → leb end LAST_MOMENT ≡ false
above begin end es h late =
    let order = in_order-within begin end es (second_holds (starts_at begin es) (in_order begin end es) h) in
    elim late [
      | inl begin_late ↦ lt-leb end LAST_MOMENT (omega arith)
      | inr end_late ↦ lt-leb end LAST_MOMENT end_late
    ]

verdict_holds : (rise hold : Bool) (n : ℕ) (last : Option ℕ) (m : ℕ × ℕ) → verdict rise hold n last ≡ Ok m → hold ≡ true
verdict_holds true true n last m e = refl
verdict_holds true false n last m e = absurd (err_is_ok m MomentOrder e)
verdict_holds false hold n last m e = absurd (err_is_ok m SerialOrder e)

-- a moment above the limit is the fault of records that have no other
pub judged_late : (begin end : ℕ) (n : ℕ × ℕ) (o : Option (List Entry)) → verdict_on begin end o ≡ Ok n
    → (LAST_MOMENT < begin) ⊎ (LAST_MOMENT < end) → records_fault begin end o ≡ Some MomentOrder
judged_late begin end n None e late = absurd (err_is_ok n BadRecord e)
judged_late begin end n (Some es) e late =
    let hold = verdict_holds (serials_rise es) (starts_at begin es && in_order begin end es) (length es) (last_serial_after None es) n e in
    (verdict_ok (serials_rise es) (starts_at begin es) (in_order begin end es) (leb end LAST_MOMENT) (length es) (last_serial_after None es) n e).0
    ∙ ap (order_fault true) (above begin end es hold late)

-- ---- if no fault applies, the bytes start with a packet

in_time : (from to : ℕ) (es : List Entry) → AllByRecursion HasText es → IsTrue (in_order from to es) → to ≤ LAST_MOMENT → AllByRecursion Fits es
in_time from to [] text order limit = tt
in_time from to (e ∷ es) text order limit =
    let others = second_holds (leb from e.moment) (in_order e.moment to es) order in
    let below = in_order-within e.moment to es others in (
      record { serial = text.0.serial; moment = omega (arith, below, limit); id = text.0.id; payload = text.0.payload },
      in_time e.moment to es text.1 others limit,
    )

-- records without a fault
record Sound (begin end : ℕ) (body : List ℕ) : Type 0 where
  are : AreRecords (entries_of body) body
  fits : AllByRecursion Fits (entries_of body)
  serials : IsTrue (serials_rise (entries_of body))
  moments : IsTrue (moments_hold begin end (entries_of body))

sound_by : (begin end : ℕ) (body : List ℕ) (o : Option (List Entry)) → AreBytes body → entries_at body ≡ o
    → records_fault begin end o ≡ None → Sound begin end body
sound_by begin end body None small is none = absurd (some_is_none BadRecord none)
sound_by begin end body (Some es) small is none =
    let are = at_records body es small is in
    let same = records_of body es are in
    let h = no_order_fault (serials_rise es) (moments_hold begin end es) none in
    let m = moments_hold_says begin end es h.1 in
    record {
      are = subst (λ (l : List Entry). AreRecords l body) (sym same) are;
      fits = subst (AllByRecursion Fits) (sym same) (in_time begin end es are.text m.order m.limit);
      serials = subst (λ (l : List Entry). IsTrue (serials_rise l)) (sym same) h.0;
      moments = subst (λ (l : List Entry). IsTrue (moments_hold begin end l)) (sym same) h.1;
    }

body_length : (bytes : List ℕ) → Passes bytes → PACKET_HEADER + length (body_in bytes) ≡ packet_bits_in bytes / 8
body_length bytes p =
    let size = packet_bits_in bytes / 8 in
    omega (arith, p.low, p.there, length-drop PACKET_HEADER (take size bytes), length-take size bytes)

-- a packet at the front: what it obeys, and that the bytes of its records are whole
pub record Decoded (bytes : List ℕ) : Type 0 where
  pub packet : IsPacket (contents_in bytes)
  pub whole : AreWhole (body_in bytes)
  pub size : packet_bits_in bytes / 8 ≡ packet_size (contents_in bytes)
  pub parts : bytes ≡ packet_text (contents_in bytes) ++ drop (packet_bits_in bytes / 8) bytes

pub packet_decoded : (bytes : List ℕ) → AreBytes bytes → first_fault bytes ≡ None → Decoded bytes
packet_decoded bytes small none =
    let size = packet_bits_in bytes / 8 in
    let body = body_in bytes in
    let p = contents_in bytes in
    let bits = packet_bits_in bytes in
    let rest = drop size bytes in
    let faults = first_none (front_fault bytes) (records_fault (begin_in bytes) (end_in bytes) (entries_at body)) none in
    let passes = front_passes bytes faults.0 in
    let body_small = AreBytes-drop PACKET_HEADER (take size bytes) (AreBytes-take size bytes small) in
    let sound = sound_by (begin_in bytes) (end_in bytes) body (entries_at body) body_small refl faults.1 in
    let weight : packet_size p ≡ size = omega (arith, weight_of-records_text p.records, ap length sound.are.parts, body_length bytes passes) in
    let eight : 8 * packet_size p ≡ bits = omega (arith, weight, passes.whole) in
    let behind : drop PACKET_HEADER bytes ≡ records_text p.records ++ rest =
    ap (drop PACKET_HEADER) (sym (take-append-drop size bytes))
    ∙ drop-append-le PACKET_HEADER (take size bytes) rest (omega (arith, passes.low, passes.there, length-take size bytes))
    ∙ ap (λ (t : List ℕ). t ++ rest) sound.are.parts in
    record {
      packet = record {
        uuid = omega (arith, passes.long, length-take 16 (drop 4 bytes), length-drop 4 bytes);
        stream = numeral_64.below (bytes_from 8 24 bytes) (AreBytes-take 8 (drop 24 bytes) (AreBytes-drop 24 bytes small));
        seq = numeral_64.below (bytes_from 8 64 bytes) (AreBytes-take 8 (drop 64 bytes) (AreBytes-drop 64 bytes small));
        lost = numeral_64.below (bytes_from 8 72 bytes) (AreBytes-take 8 (drop 72 bytes) (AreBytes-drop 72 bytes small));
        records = record { fits = sound.fits; serials = sound.serials; moments = sound.moments; small = omega (arith, weight, passes.high) };
      };
      whole = record { are = sound.are; fits = sound.fits };
      size = sym weight;
      parts =
          fields_stand bytes small passes.long passes.front passes.id passes.sizes
          ∙ ap (λ (t : List ℕ). header_text p.head ++ (context_text p.head bits ++ t)) behind
          ∙ ap (λ (n : ℕ). header_text p.head ++ (context_text p.head n ++ (records_text p.records ++ rest))) (sym eight)
          ∙ regroup (header_text p.head) (context_text p.head (8 * packet_size p)) (records_text p.records) rest;
    }
  where
    regroup : (h c r rest : List ℕ) → h ++ (c ++ (r ++ rest)) ≡ (h ++ (c ++ r)) ++ rest
    regroup h c r rest = simp append_assoc

-- ---- if the bytes start with a packet, no fault applies

nonempty : (begin end : ℕ) (es : List Entry) → IsTrue (moments_hold begin end es) → SMALLEST_PACKET ≤ weight_of es
nonempty begin end [] h = absurd (false≢true (moments_hold_says begin end [] h).starts)
nonempty begin end (e ∷ es) h = omega (arith, sum_by-cons record_weight e es)

pub record IsRead (p : Contents) (bytes : List ℕ) : Type 0 where
  pub sound : first_fault bytes ≡ None
  pub contents : contents_in bytes ≡ p
  pub size : packet_bits_in bytes / 8 ≡ packet_size p

abbrev made : List ℕ → ℕ → ℕ → ℕ → ℕ → ℕ → List Entry → Contents
made uuid stream begin end seq lost es =
    record {
      head = record { uuid = uuid; stream = stream; begin = begin; end = end; seq = seq; lost = lost };
      records = es;
    }

same_contents : (p : Contents) (u : List ℕ) (s b e q l : ℕ) (es : List Entry) → u ≡ p.head.uuid → s ≡ p.head.stream
    → b ≡ p.head.begin → e ≡ p.head.end → q ≡ p.head.seq → l ≡ p.head.lost → es ≡ p.records
    → made u s b e q l es ≡ p
same_contents p u s b e q l es uuid stream begin end seq lost records = rw (uuid, stream, begin, end, seq, lost, records) refl

pub packet_read : (p : Contents) (rest bytes : List ℕ) → Begins p rest bytes → IsRead p bytes
packet_read p rest bytes b =
    let made = b.packet.records in
    let m = moments_hold_says p.head.begin p.head.end p.records made.moments in
    let order = in_order-within p.head.begin p.head.end p.records m.order in
    let fits : HeadFits p.head = record {
      uuid = b.packet.uuid;
      stream = b.packet.stream;
      begin = omega (arith, order, m.limit);
      end = omega (arith, m.limit);
      seq = b.packet.seq;
      lost = b.packet.lost;
    } in
    let bits = 8 * packet_size p in
    let f = fields_read p rest bytes b.parts fits (omega (arith, made.small)) in
    let size : packet_bits_in bytes / 8 ≡ packet_size p = omega (arith, f.size) in
    let text = records_text p.records in
    let len : packet_size p ≡ PACKET_HEADER + length text = weight_of-records_text p.records in
    let long : length bytes ≡ packet_size p + length rest =
    ap length b.parts ∙ length-append (packet_text p) rest
    ∙ ap (λ (n : ℕ). n + length rest) (length-packet_text p b.packet.uuid) in
    let some = nonempty p.head.begin p.head.end p.records made.moments in
    let body : body_in bytes ≡ text =
    ap (λ (n : ℕ). drop PACKET_HEADER (take n bytes)) (size ∙ len)
    ∙ drop-take PACKET_HEADER (length text) bytes
    ∙ ap (take (length text)) f.tail
    ∙ take_at text rest (length text) refl in
    let are : AreRecords p.records text = record { text = all_weaken Fits HasText fits_has_text p.records made.fits; parts = refl } in
    let read : entries_at (body_in bytes) ≡ Some p.records = ap entries_at body ∙ records_at text p.records are in
    let passes : Passes bytes = record {
      long = omega (arith, long, len);
      front = f.front;
      id = f.stream_id;
      sizes = f.content ∙ sym f.size;
      whole = omega (arith, f.size);
      low = omega (arith, f.size, some);
      high = omega (arith, f.size, made.small);
      there = omega (arith, size, long);
    } in
    record {
      sound =
          ap (λ (o : Option PacketFault). option_or o
          (records_fault (begin_in bytes) (end_in bytes) (entries_at (body_in bytes)))) (passes_front bytes passes)
          ∙ ap (records_fault (begin_in bytes) (end_in bytes)) read
          ∙ ap (λ (n : ℕ). records_fault n (end_in bytes) (Some p.records)) f.begin
          ∙ ap (λ (n : ℕ). records_fault p.head.begin n (Some p.records)) f.end
          ∙ rw (made.serials, made.moments) refl;
      contents = same_contents p (bytes_from 16 4 bytes) (number_from w64 24 bytes) (begin_in bytes) (end_in bytes)
          (number_from w64 64 bytes) (number_from w64 72 bytes) (entries_of (body_in bytes))
          f.uuid f.stream f.begin f.end f.seq f.lost (ap entries_of body ∙ records_of text p.records are);
      size = size;
    }

-- ---- what the decoder knows

-- the bytes of the records, as they were cut out
pub body_is : (bytes text body : List ℕ) (size : ℕ) → size ≡ packet_bits_in bytes / 8 → text ≡ take size bytes
    → body ≡ drop PACKET_HEADER text → body ≡ body_in bytes
body_is bytes text body size size-is text-is is = is ∙ ap (drop PACKET_HEADER) (text-is ∙ ap (λ (n : ℕ). take n bytes) size-is)

judged_in : (bytes body : List ℕ) (begin end : ℕ) → body ≡ body_in bytes → begin ≡ begin_in bytes → end ≡ end_in bytes
    → verdict_on begin end (entries_at body) ≡ verdict_on (begin_in bytes) (end_in bytes) (entries_at (body_in bytes))
judged_in bytes body begin end is begin-is end-is = rw (is, begin-is, end-is) refl

fault_behind : (bytes : List ℕ) → front_fault bytes ≡ None
    → first_fault bytes ≡ records_fault (begin_in bytes) (end_in bytes) (entries_at (body_in bytes))
fault_behind bytes none = ap (λ (o : Option PacketFault). option_or o
    (records_fault (begin_in bytes) (end_in bytes) (entries_at (body_in bytes)))) none

pub sound_records : (bytes body : List ℕ) (begin end : ℕ) (n : ℕ × ℕ) → front_fault bytes ≡ None → body ≡ body_in bytes
    → begin ≡ begin_in bytes → end ≡ end_in bytes
    → Ok n ≡ verdict_on begin end (entries_at body) → end_in bytes ≤ LAST_MOMENT → (first_fault bytes ≡ None) × (n ≡ told (entries_of body))
unfolding entries_of
sound_records bytes body begin end n none is begin-is end-is judged-is within =
    let ok = judged_ok (begin_in bytes) (end_in bytes) n (entries_at (body_in bytes))
    (sym (judged-is ∙ judged_in bytes body begin end is begin-is end-is)) within in
    (fault_behind bytes none ∙ ok.0, ok.1 ∙ ap (λ (b : List ℕ). told (unwrap_or (entries_at b) [])) (sym is))

pub late_records : (bytes body : List ℕ) (begin end : ℕ) (n : ℕ × ℕ) → front_fault bytes ≡ None → body ≡ body_in bytes
    → begin ≡ begin_in bytes → end ≡ end_in bytes
    → Ok n ≡ verdict_on begin end (entries_at body) → (LAST_MOMENT < begin_in bytes) ⊎ (LAST_MOMENT < end_in bytes)
    → first_fault bytes ≡ Some MomentOrder
late_records bytes body begin end n none is begin-is end-is judged-is late =
    fault_behind bytes none ∙ judged_late (begin_in bytes) (end_in bytes) n (entries_at (body_in bytes))
    (sym (judged-is ∙ judged_in bytes body begin end is begin-is end-is)) late

last_some : (before : ℕ) (es : List Entry) → last_serial_after (Some before) es ≡ Some (unwrap_or (last_serial_after (Some before) es) 0)
last_some before [] = refl
last_some before (e ∷ es) = last_some e.serial es

-- a packet has a last record, and this is its serial
pub last_is : (h : Head) (es : List Entry) (last : ℕ) → IsPacket (record { head = h; records = es })
    → last ≡ unwrap_or (last_serial_after None es) 0 → last_serial_after None es ≡ Some last
last_is h [] last packet is = absurd (false≢true (moments_hold_says h.begin h.end [] packet.records.moments).starts)
last_is h (e ∷ es) last packet is = last_some e.serial es ∙ ap Some (sym is)

pub packet_of : (bytes body : List ℕ) (h : Head) → IsPacket (contents_in bytes) → h ≡ (contents_in bytes).head
    → body ≡ body_in bytes → IsPacket (record { head = h; records = entries_of body })
packet_of bytes body h packet head-is is =
    subst (λ (x : Head). IsPacket (record { head = x; records = entries_of body })) (sym head-is)
    (subst (λ (b : List ℕ). IsPacket (record { head = (contents_in bytes).head; records = entries_of b })) (sym is) packet)

pub whole_of : (bytes body : List ℕ) → AreWhole (body_in bytes) → body ≡ body_in bytes → AreWhole body
whole_of bytes body whole is = subst AreWhole (sym is) whole

pub contents_are : (bytes body : List ℕ) (h : Head) (p : Contents) → p ≡ record { head = h; records = entries_of body }
    → h ≡ (contents_in bytes).head → body ≡ body_in bytes → p ≡ contents_in bytes
contents_are bytes body h p p-is head-is is =
    p-is ∙ ap (λ (x : Head). with_head x (entries_of body)) head-is ∙ ap (λ (b : List ℕ). with_head (contents_in bytes).head (entries_of b)) is
  where
    with_head : Head → List Entry → Contents
    with_head h es = record { head = h; records = es }
