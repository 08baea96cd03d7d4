-- A packet's text: what is read of it, and how it is written.
use Rattle.std.proofs.Common.{◌≡◌, ℕ, ◌+◌, ◌*◌, ◌≤◌, List, [], ◌∷◌, ◌++◌, length, sum_by, drop, Some, None, IsTrue, refl, sym, ap, subst, ◌∙◌, append_assoc, length-append, arith}
use Rattle.std.specs.List.{AllByRecursion}
use Rattle.std.specs.Int.{w32, w64, to_le_bytes}
use Rattle.std.proofs.lemmas.List.{drop_at, length-drop}
use Rattle.std.proofs.lemmas.Bool.{false≢true}
use Rattle.std.proofs.lemmas.List.Sums.{sum_by-cons}
use Rattle.tr_record.specs.Records.{Entry, records_text}
use Rattle.tr_record.specs.Whole.{AreWhole, entries_of}
use Rattle.tr_packet.specs.Packets.{Contents, IsPacket, contents, header_text, context_text, packet_text, packet_size}
use Rattle.tr_packet.specs.Texts.{packets_text, body_of, packet_in, IsTextOf}
use Rattle.tr_packet.specs.declared.head.Head.{Head}
use Rattle.tr_packet.specs.Order.{last_serial_after, moments_hold}
use Rattle.tr_record.proofs.RecordLemmas.{weight_of-records_text}
use Rattle.tr_packet.proofs.OrderLemmas.{moments_hold_says}
use Rattle.tr_packet.proofs.TextLemmas.{length-packet_text}
use Rattle.tr_terms.specs.declared.limits.TheConstants.{PACKET_HEADER}

pub size_is : (ps : List Contents) → AllByRecursion IsPacket ps → length (packets_text ps) ≡ sum_by packet_size ps
size_is [] are = refl
size_is (p ∷ ps) are =
    omega (
      arith,
      length-append (packet_text p) (packets_text ps),
      length-packet_text p are.0.uuid,
      size_is ps are.1,
      sum_by-cons packet_size p ps,
    )

-- what comes after the header and the context
pub body_is_records : (p : Contents) → length p.head.uuid ≡ 16 → body_of (packet_text p) ≡ records_text p.records
body_is_records p sixteen =
    let bits = 8 * packet_size p in
    ap (drop PACKET_HEADER) (sym (append_assoc (header_text p.head) (context_text p.head bits) (records_text p.records)))
    ∙ drop_at (header_text p.head ++ context_text p.head bits) (records_text p.records) PACKET_HEADER
    (omega (
      arith,
      sixteen,
      length-append (header_text p.head) (context_text p.head bits),
      length-append p.head.uuid (to_le_bytes w32 0 ++ to_le_bytes w64 p.head.stream),
    ))

-- a packet's text has room for the header and the context
pub text_size : (p : Contents) → IsPacket p → (length (packet_text p) ≡ packet_size p) × (PACKET_HEADER ≤ length (packet_text p))
text_size p is =
    let long = length-packet_text p is.uuid in
    (long, omega (arith, long))

-- the header and the context before the texts of records that make a packet are the packet's text
pub is_text : (head : Head) (count : ℕ) (es : List Entry) (body out : List ℕ) → IsPacket (contents head es) → count ≡ length es
    → AreWhole body → entries_of body ≡ es → body ≡ records_text es
    → out ≡ (header_text head ++ context_text head (8 * (PACKET_HEADER + length body))) ++ body
    → IsTextOf head count out × (packet_in head out ≡ contents head es)
is_text head count es body out is many whole records stands written =
    let p : Contents = contents head es in
    let size : PACKET_HEADER + length body ≡ packet_size p = ap (λ (t : List ℕ). PACKET_HEADER + length t) stands ∙ sym (weight_of-records_text es) in
    let text : out ≡ packet_text p =
    written ∙ append_assoc (header_text head) (context_text head (8 * (PACKET_HEADER + length body))) body
    ∙ ap (λ (n : ℕ). header_text head ++ (context_text head (8 * n) ++ body)) size
    ∙ ap (λ (t : List ℕ). header_text head ++ (context_text head (8 * packet_size p) ++ t)) stands in
    let bytes : body_of out ≡ body = ap body_of text ∙ body_is_records p is.uuid ∙ sym stands in
    let same : packet_in head out ≡ p = ap (λ (t : List ℕ). contents head (entries_of t)) bytes ∙ ap (contents head) records in (
      record {
        packet = subst IsPacket (sym same) is;
        whole = subst AreWhole (sym bytes) whole;
        counted = many ∙ sym (ap length (ap entries_of bytes ∙ records));
        is_text = text ∙ ap packet_text (sym same);
      },
      same,
    )

-- the header and the context are written over what stood there
pub sealed : (head : Head) (count : ℕ) (bytes out : List ℕ) → PACKET_HEADER ≤ length bytes
    → IsPacket (contents head (entries_of (body_of bytes))) → AreWhole (body_of bytes)
    → count ≡ length (entries_of (body_of bytes))
    → out ≡ (header_text head ++ context_text head (8 * length bytes)) ++ drop PACKET_HEADER bytes
    → IsTextOf head count out × (packet_in head out ≡ contents head (entries_of (body_of bytes)))
sealed head count bytes out room is whole many written =
    let size : length bytes ≡ PACKET_HEADER + length (body_of bytes) = omega (arith, room, length-drop PACKET_HEADER bytes) in
    is_text head count (entries_of (body_of bytes)) (body_of bytes) out is many whole refl whole.are.parts
    (written ∙ ap (λ (n : ℕ). (header_text head ++ context_text head (8 * n)) ++ body_of bytes) size)

-- and it is no longer than a packet may be
pub sealed_small : (head : Head) (bytes : List ℕ) → PACKET_HEADER ≤ length bytes
    → IsPacket (contents head (entries_of (body_of bytes))) → AreWhole (body_of bytes) → length bytes ≡ packet_size (contents head (entries_of (body_of bytes)))
sealed_small head bytes room is whole =
    omega (
      arith,
      room,
      length-drop PACKET_HEADER bytes,
      ap length whole.are.parts,
      weight_of-records_text (entries_of (body_of bytes)),
    )

-- a packet has a last serial
later : (n : ℕ) (es : List Entry) → None ≡ last_serial_after (Some n) es → ⊥
later n [] e = cc
later n (e ∷ es) is = later e.serial es is

pub has_last : (p : Contents) → IsPacket p → None ≡ last_serial_after None p.records → ⊥
has_last p is none = by_records p.head.begin p.head.end p.records is.records.moments none
  where
    by_records : (begin end : ℕ) (es : List Entry) → IsTrue (moments_hold begin end es) → None ≡ last_serial_after None es → ⊥
    by_records begin end [] holds none = false≢true (moments_hold_says begin end [] holds).starts
    by_records begin end (e ∷ es) holds none = later e.serial es none
