-- What stands in a page's memory after each store.
use Rattle.std.proofs.Common.{◌≡◌, ℕ, ◌+◌, ◌*◌, ◌≤◌, ◌<◌, ◌^◌, zero, suc, List, [], ◌∷◌, ◌++◌, length, take, drop, refl, sym, ap, subst, ◌∙◌, arith, append_assoc, length-append, ◌⊎◌, inl, inr}
use Rattle.std.specs.Int.{w32, w64, from_le_bytes, to_le_bytes}
use Rattle.std.proofs.lemmas.List.{drop-drop, drop-take, drop_at, length-drop, length-take, take-append-drop, take-append-le, take-take, take_at}
use Rattle.tr_packet.specs.Decoding.{Begins, bytes_from, content_bits_in, packet_bits_in}
use Rattle.tr_packet.specs.Packets.{Contents, IsPacket, contents, context_text, header_text, magic, packet_size, packet_text}
use Rattle.tr_packet.specs.Texts.{HeadFits}
use Rattle.tr_packet.specs.declared.head.Head.{Head}
use Rattle.tr_packet.specs.declared.layout.TheConstants.{CONTENT_SIZE_AT, END_AT, LOST_AT, PACKET_SIZE_AT, SEQ_AT}
use Rattle.tr_packet.proofs.LayoutLemmas.{fields_read}
use Rattle.tr_packet.proofs.TextLemmas.{length-packet_text}
use Rattle.tr_record.specs.Records.{Entry, record_text, records_text}
use Rattle.tr_record.specs.Weight.{record_weight, weight_of}
use Rattle.tr_record.proofs.RecordLemmas.{length-record_text, records_text-push, weight_of-push}
use Rattle.tr_record.proofs.Fields.{numeral_64}
use Rattle.tr_subbuf.specs.Stores.{NoneStands, Stands, Store, after_store, after_stores, begin_stores, committed, put_stores, store}
use Rattle.tr_subbuf.specs.SubBuffer.{ending, losing}
use Rattle.tr_terms.specs.declared.limits.TheConstants.{PACKET_HEADER}

-- a header and context whose sizes need not be equal, and what is behind them
abbrev word : ℕ → List ℕ
word = to_le_bytes w64

abbrev early : Head → List ℕ
early h = header_text h ++ word h.begin

abbrev late : Head → List ℕ → List ℕ
late h back = (word h.seq ++ word h.lost) ++ back

abbrev front : Head → ℕ → ℕ → List ℕ → List ℕ
front h content size back = early h ++ (word h.end ++ (word content ++ (word size ++ late h back)))

in_front : (m u i s b e c z q l r : List ℕ)
    → (m ++ (u ++ (i ++ s))) ++ (((b ++ (e ++ (c ++ z))) ++ (q ++ l)) ++ r)
    ≡ ((m ++ (u ++ (i ++ s))) ++ b) ++ (e ++ (c ++ (z ++ ((q ++ l) ++ r))))
in_front m u i s b e c z q l r = simp append_assoc

-- a packet's text, and what is behind it
stands_so : (h : Head) (bits : ℕ) (back : List ℕ) → header_text h ++ (context_text h bits ++ back) ≡ front h bits bits back
stands_so h bits back = in_front magic h.uuid (to_le_bytes w32 0) (word h.stream) (word h.begin) (word h.end) (word bits) (word bits) (word h.seq) (word h.lost) back

text_so : (p : Contents) (rest : List ℕ) → packet_text p ++ rest ≡ front p.head (8 * packet_size p) (8 * packet_size p) (records_text p.records ++ rest)
text_so p rest =
    append_assoc (header_text p.head) (context_text p.head (8 * packet_size p) ++ records_text p.records) rest
    ∙ ap (λ (t : List ℕ). header_text p.head ++ t) (append_assoc (context_text p.head (8 * packet_size p)) (records_text p.records) rest)
    ∙ stands_so p.head (8 * packet_size p) (records_text p.records ++ rest)

early_long : (h : Head) → length h.uuid ≡ 16 → length (early h) ≡ END_AT
early_long h sixteen =
    omega (
      arith,
      sixteen,
      length-append (header_text h) (word h.begin),
      length-append h.uuid (to_le_bytes w32 0 ++ word h.stream),
    )

-- a part is another one then
stored : (place : ℕ) (first part back new memory : List ℕ) → memory ≡ first ++ (part ++ back) → length first ≡ place
    → length part ≡ length new → after_store (store place new) memory ≡ first ++ (new ++ back)
stored place first part back new memory is long same =
    let whole : memory ≡ (first ++ part) ++ back = is ∙ sym (append_assoc first part back) in
    let one : take place memory ≡ first = ap (take place) is ∙ take_at first (part ++ back) place long in
    let two : drop (place + length new) memory ≡ back =
    ap (drop (place + length new)) whole ∙ drop_at (first ++ part) back (place + length new) (omega (arith, long, same, length-append first part)) in
    cc

end_stored : (h : Head) (content size end : ℕ) (back : List ℕ) → length h.uuid ≡ 16
    → after_store (store END_AT (word end)) (front h content size back) ≡ front (ending end h) content size back
end_stored h content size end back sixteen =
    stored END_AT (early h) (word h.end) (word content ++ (word size ++ late h back)) (word end) (front h content size back) refl
    (early_long h sixteen) refl

content_stored : (h : Head) (content size new : ℕ) (back : List ℕ) → length h.uuid ≡ 16
    → after_store (store CONTENT_SIZE_AT (word new)) (front h content size back) ≡ front h new size back
content_stored h content size new back sixteen =
    let first = early h ++ word h.end in
    let apart = append_assoc (early h) (word h.end) in
    stored CONTENT_SIZE_AT first (word content) (word size ++ late h back) (word new) (front h content size back)
    (sym (apart (word content ++ (word size ++ late h back)))) (omega (arith, early_long h sixteen, length-append (early h) (word h.end))) refl
    ∙ apart (word new ++ (word size ++ late h back))

size_stored : (h : Head) (content size new : ℕ) (back : List ℕ) → length h.uuid ≡ 16
    → after_store (store PACKET_SIZE_AT (word new)) (front h content size back) ≡ front h content new back
size_stored h content size new back sixteen =
    let first = early h ++ (word h.end ++ word content) in
    stored PACKET_SIZE_AT first (word size) (late h back) (word new) (front h content size back)
    (sym (in_four (early h) (word h.end) (word content) (word size ++ late h back)))
    (omega (arith, early_long h sixteen, length-append (early h) (word h.end ++ word content))) refl
    ∙ in_four (early h) (word h.end) (word content) (word new ++ late h back)
  where
    in_four : (a b c d : List ℕ) → (a ++ (b ++ c)) ++ d ≡ a ++ (b ++ (c ++ d))
    in_four a b c d = simp append_assoc

-- content_size stands for packet_size
commits : (h : Head) (content size : ℕ) (back : List ℕ) → length h.uuid ≡ 16
    → committed (front h content size back) ≡ front h content content back
commits h content size back sixteen =
    let memory = front h content size back in
    let start = early h ++ word h.end in
    let long : length start ≡ CONTENT_SIZE_AT = omega (arith, early_long h sixteen, length-append (early h) (word h.end)) in
    let is : memory ≡ start ++ (word content ++ (word size ++ late h back)) = sym (append_assoc (early h) (word h.end) (word content ++ (word size ++ late h back))) in
    let number : bytes_from 8 CONTENT_SIZE_AT memory ≡ word content =
    ap (λ (t : List ℕ). take 8 t) (ap (drop CONTENT_SIZE_AT) is ∙ drop_at start (word content ++ (word size ++ late h back)) CONTENT_SIZE_AT long)
    ∙ take_at (word content) (word size ++ late h back) 8 refl in
    let one : take PACKET_SIZE_AT memory ≡ start ++ word content =
    ap (take PACKET_SIZE_AT) (is ∙ sym (append_assoc start (word content) (word size ++ late h back)))
    ∙ take_at (start ++ word content) (word size ++ late h back) PACKET_SIZE_AT (omega (arith, long, length-append start (word content))) in
    let two : drop SEQ_AT memory ≡ late h back =
    ap (drop SEQ_AT) (is ∙ sym (in_four start (word content) (word size) (late h back)))
    ∙ drop_at (start ++ (word content ++ word size)) (late h back) SEQ_AT (omega (arith, long, length-append start (word content ++ word size))) in
    ap (λ (t : List ℕ). t ++ (bytes_from 8 CONTENT_SIZE_AT memory ++ drop SEQ_AT memory)) one
    ∙ ap (λ (t : List ℕ). (start ++ word content) ++ (t ++ drop SEQ_AT memory)) number
    ∙ ap (λ (t : List ℕ). (start ++ word content) ++ (word content ++ t)) two
    ∙ in_five (early h) (word h.end) (word content) (word content) (late h back)
  where
    in_four : (a b c d : List ℕ) → (a ++ (b ++ c)) ++ d ≡ a ++ (b ++ (c ++ d))
    in_four a b c d = simp append_assoc

    in_five : (a b c d e : List ℕ) → ((a ++ b) ++ c) ++ (d ++ e) ≡ a ++ (b ++ (c ++ (d ++ e)))
    in_five a b c d e = simp append_assoc

-- so a packet stands there if its content_size does
stands : (h : Head) (es : List Entry) (size : ℕ) (rest : List ℕ) → IsPacket (contents h es)
    → Stands (contents h es) (front h (8 * weight_of es) size (records_text es ++ rest))
stands h es size rest is = record {
  rest = rest;
  begins = record {
    packet = is;
    parts = commits h (8 * weight_of es) size (records_text es ++ rest) is.uuid ∙ sym (text_so (contents h es) rest);
  };
}

records_push : (es : List Entry) (e : Entry) (rest : List ℕ) → records_text (es ++ e ∷ []) ++ rest ≡ records_text es ++ (record_text e ++ rest)
records_push es e rest = ap (λ (t : List ℕ). t ++ rest) (records_text-push es e) ∙ append_assoc (records_text es) (record_text e) rest

take_none : (n : ℕ) → take {A = Store} n [] ≡ []
take_none zero = refl
take_none (suc n) = refl

-- ---- a put

abbrev Whole : Head → List Entry → Entry → List ℕ → Type 0
Whole h es e memory =
    Stands (contents h es) memory ⊎ (Stands (contents (ending e.moment h) es) memory ⊎ Stands (contents (ending e.moment h) (es ++ e ∷ [])) memory)

text_stored : (h : Head) (es : List Entry) (e : Entry) (stale : List ℕ) → IsPacket (contents h es) → record_weight e ≤ length stale
    → after_store (store (weight_of es) (record_text e)) (packet_text (contents h es) ++ stale)
    ≡ front h (8 * weight_of es) (8 * weight_of es) (records_text es ++ (record_text e ++ drop (record_weight e) stale))
text_stored h es e stale is room =
    let p = contents h es in
    let w = record_weight e in
    let rest = drop w stale in
    let parts : packet_text p ++ stale ≡ packet_text p ++ (take w stale ++ rest) = ap (λ (t : List ℕ). packet_text p ++ t) (sym (take-append-drop w stale)) in
    stored (weight_of es) (packet_text p) (take w stale) rest (record_text e) (packet_text p ++ stale) parts (length-packet_text p is.uuid)
    (omega (arith, room, length-take w stale, length-record_text e)) ∙ text_so p (record_text e ++ rest)

pub put-whole : (h : Head) (es : List Entry) (e : Entry) (stale : List ℕ) (k : ℕ) → IsPacket (contents h es)
    → IsPacket (contents (ending e.moment h) es) → IsPacket (contents (ending e.moment h) (es ++ e ∷ [])) → record_weight e ≤ length stale
    → Whole h es e (after_stores (take k (put_stores (packet_size (contents h es)) e)) (packet_text (contents h es) ++ stale))
put-whole h es e stale k is ends more room = by_count k
  where
    memory : List ℕ
    memory = packet_text (contents h es) ++ stale

    old : ℕ
    old = 8 * weight_of es

    new : ℕ
    new = 8 * (weight_of es + record_weight e)

    rest : List ℕ
    rest = drop (record_weight e) stale

    back : List ℕ
    back = records_text es ++ (record_text e ++ rest)

    same : new ≡ 8 * weight_of (es ++ e ∷ [])
    same = omega (arith, weight_of-push es e)

    one : after_store (store (weight_of es) (record_text e)) memory ≡ front h old old back
    one = text_stored h es e stale is room

    two : after_store (store END_AT (word e.moment)) (after_store (store (weight_of es) (record_text e)) memory) ≡ front (ending e.moment h) old old back
    two = ap (after_store (store END_AT (word e.moment))) one ∙ end_stored h old old e.moment back is.uuid

    three : after_store (store CONTENT_SIZE_AT (word new)) (after_store (store END_AT (word e.moment)) (after_store (store (weight_of es) (record_text e)) memory))
        ≡ front (ending e.moment h) new old back
    three = ap (after_store (store CONTENT_SIZE_AT (word new))) two ∙ content_stored (ending e.moment h) old old new back is.uuid

    last : List ℕ
    last = after_store (store PACKET_SIZE_AT (word new)) (after_store (store CONTENT_SIZE_AT (word new)) (after_store (store END_AT (word e.moment))
        (after_store (store (weight_of es) (record_text e)) memory)))

    four : last ≡ front (ending e.moment h) new new back
    four = ap (after_store (store PACKET_SIZE_AT (word new))) three ∙ size_stored (ending e.moment h) new old new back is.uuid

    after : (size : ℕ) (found : List ℕ) → found ≡ front (ending e.moment h) new size back → Stands (contents (ending e.moment h) (es ++ e ∷ [])) found
    after size found it =
        subst (Stands (contents (ending e.moment h) (es ++ e ∷ [])))
        (sym (it ∙ ap (λ (n : ℕ). front (ending e.moment h) n size back) same ∙ ap (front (ending e.moment h) (8 * weight_of (es ++ e ∷ [])) size) (sym (records_push es e rest))))
        (stands (ending e.moment h) (es ++ e ∷ []) size rest more)

    by_count : (n : ℕ) → Whole h es e (after_stores (take n (put_stores (packet_size (contents h es)) e)) memory)
    by_count zero = inl (subst (Stands (contents h es)) (sym (text_so (contents h es) stale)) (stands h es old stale is))
    by_count (suc zero) = inl (subst (Stands (contents h es)) (sym one) (stands h es old (record_text e ++ rest) is))
    by_count (suc (suc zero)) = inr (inl (subst (Stands (contents (ending e.moment h) es)) (sym two) (stands (ending e.moment h) es old (record_text e ++ rest) ends)))
    by_count (suc (suc (suc zero))) = inr (inr (after old _ three))
    by_count (suc (suc (suc (suc n)))) =
        inr (inr (after new (after_stores (take n []) last) (ap (λ (ss : List Store). after_stores ss last) (take_none n) ∙ four)))

-- ---- an end, and an emptied page

pub end-whole : (h : Head) (es : List Entry) (end : ℕ) (stale : List ℕ) → IsPacket (contents h es) → IsPacket (contents (ending end h) es)
    → Stands (contents (ending end h) es) (after_store (store END_AT (to_le_bytes w64 end)) (packet_text (contents h es) ++ stale))
end-whole h es end stale is ends =
    let bits = 8 * weight_of es in
    subst (Stands (contents (ending end h) es))
    (sym (ap (after_store (store END_AT (word end))) (text_so (contents h es) stale) ∙ end_stored h bits bits end (records_text es ++ stale) is.uuid))
    (stands (ending end h) es bits stale ends)

-- content_size is read
content_of : (h : Head) (content size : ℕ) (back : List ℕ) → length h.uuid ≡ 16 → content < 2 ^ 64
    → content_bits_in (front h content size back) ≡ content
content_of h content size back sixteen small =
    let start = early h ++ word h.end in
    let long : length start ≡ CONTENT_SIZE_AT = omega (arith, early_long h sixteen, length-append (early h) (word h.end)) in
    let is : front h content size back ≡ start ++ (word content ++ (word size ++ late h back)) =
    sym (append_assoc (early h) (word h.end) (word content ++ (word size ++ late h back))) in
    ap (λ (t : List ℕ). from_le_bytes w64 (take 8 t)) (ap (drop CONTENT_SIZE_AT) is ∙ drop_at start (word content ++ (word size ++ late h back)) CONTENT_SIZE_AT long)
    ∙ ap (from_le_bytes w64) (take_at (word content) (word size ++ late h back) 8 (numeral_64.len content))
    ∙ numeral_64.read content small

-- so no packet stands where content_size is 0
none_in_front : (h : Head) (size : ℕ) (back : List ℕ) → length h.uuid ≡ 16 → NoneStands (front h 0 size back)
none_in_front h size back sixteen = λ q found.
    let text : front h 0 0 back ≡ front q.head (8 * packet_size q) (8 * packet_size q) (records_text q.records ++ found.rest) =
    sym (commits h 0 size back sixteen) ∙ found.begins.parts ∙ text_so q found.rest in
    let zero-is = content_of h 0 0 back sixteen (omega arith) in
    absurd (omega (arith, sym zero-is ∙ ap content_bits_in text ∙ size_of q found.rest found.begins.packet))
  where
    size_of : (q : Contents) (rest : List ℕ) → IsPacket q
        → content_bits_in (front q.head (8 * packet_size q) (8 * packet_size q) (records_text q.records ++ rest)) ≡ 8 * packet_size q
    size_of q rest is =
        content_of q.head (8 * packet_size q) (8 * packet_size q) (records_text q.records ++ rest) is.uuid (omega (arith, is.records.small))

pub emptied : (h : Head) (es : List Entry) (stale : List ℕ) → IsPacket (contents h es)
    → NoneStands (after_store (store CONTENT_SIZE_AT (to_le_bytes w64 0)) (packet_text (contents h es) ++ stale))
emptied h es stale is =
    let bits = 8 * weight_of es in
    let back = records_text es ++ stale in
    subst NoneStands
    (sym (ap (after_store (store CONTENT_SIZE_AT (word 0))) (text_so (contents h es) stale) ∙ content_stored h bits bits 0 back is.uuid))
    (none_in_front h bits back is.uuid)

-- ---- a first record

-- the number that is read as content_size is the one that counts
committed_size : (memory : List ℕ) → PACKET_HEADER ≤ length memory → content_bits_in (committed memory) ≡ content_bits_in memory
committed_size memory long =
    let start = take CONTENT_SIZE_AT memory in
    let number = bytes_from 8 CONTENT_SIZE_AT memory in
    let rest = bytes_from 8 CONTENT_SIZE_AT memory ++ drop SEQ_AT memory in
    let few : length start ≡ CONTENT_SIZE_AT = omega (arith, long, length-take CONTENT_SIZE_AT memory) in
    let eight : length number ≡ 8 = omega (arith, long, length-take 8 (drop CONTENT_SIZE_AT memory), length-drop CONTENT_SIZE_AT memory) in
    let kept : take PACKET_SIZE_AT memory ≡ start ++ number =
    ap (take PACKET_SIZE_AT) (sym (take-append-drop CONTENT_SIZE_AT memory)
    ∙ ap (λ (t : List ℕ). start ++ t) (sym (take-append-drop 8 (drop CONTENT_SIZE_AT memory)))
    ∙ sym (append_assoc start number (drop 8 (drop CONTENT_SIZE_AT memory))))
    ∙ take_at (start ++ number) (drop 8 (drop CONTENT_SIZE_AT memory)) PACKET_SIZE_AT (omega (arith, few, eight, length-append start number)) in
    let is : committed memory ≡ start ++ (number ++ rest) = ap (λ (t : List ℕ). t ++ rest) kept ∙ append_assoc start number rest in
    ap (λ (t : List ℕ). from_le_bytes w64 (take 8 t)) (ap (drop CONTENT_SIZE_AT) is ∙ drop_at start (number ++ rest) CONTENT_SIZE_AT few)
    ∙ ap (from_le_bytes w64) (take_at number rest 8 eight)

none_stands : (memory : List ℕ) → PACKET_HEADER ≤ length memory → content_bits_in memory ≡ 0 → NoneStands memory
none_stands memory long none = λ q found.
    let bits = 8 * packet_size q in
    let back = records_text q.records ++ found.rest in
    let text : committed memory ≡ front q.head bits bits back = found.begins.parts ∙ text_so q found.rest in
    let size-is = content_of q.head bits bits back found.begins.packet.uuid (omega (arith, found.begins.packet.records.small)) in
    absurd (omega (arith, none, sym (committed_size memory long) ∙ ap content_bits_in text ∙ size-is))

pub begin-whole : (h : Head) (e : Entry) (memory : List ℕ) (k : ℕ) → content_bits_in memory ≡ 0
    → IsPacket (contents (ending e.moment h) (e ∷ [])) → PACKET_HEADER + record_weight e ≤ length memory
    → NoneStands (after_stores (take k (begin_stores h e)) memory)
    ⊎ Stands (contents (ending e.moment h) (e ∷ [])) (after_stores (take k (begin_stores h e)) memory)
begin-whole h e memory k none is long = by_count k
  where
    behind : List ℕ
    behind = drop PACKET_HEADER memory

    back : List ℕ
    back = record_text e ++ drop (record_weight e) behind

    bits : ℕ
    bits = 8 * (PACKET_HEADER + record_weight e)

    head : List ℕ
    head = header_text h ++ context_text h 0

    head_long : length head ≡ PACKET_HEADER
    head_long =
        omega (
          arith,
          is.uuid,
          length-append (header_text h) (context_text h 0),
          length-append h.uuid (to_le_bytes w32 0 ++ word h.stream),
        )

    one : after_store (store 0 head) memory ≡ front h 0 0 behind
    one =
        stored 0 [] (take PACKET_HEADER memory) behind head memory (sym (take-append-drop PACKET_HEADER memory)) refl
        (omega (arith, long, head_long, length-take PACKET_HEADER memory))
        ∙ append_assoc (header_text h) (context_text h 0) behind ∙ stands_so h 0 behind

    parts : front h 0 0 behind ≡ head ++ (take (record_weight e) behind ++ drop (record_weight e) behind)
    parts =
        sym (append_assoc (header_text h) (context_text h 0) behind ∙ stands_so h 0 behind)
        ∙ ap (λ (t : List ℕ). head ++ t) (sym (take-append-drop (record_weight e) behind))

    two : after_store (store PACKET_HEADER (record_text e)) (after_store (store 0 head) memory) ≡ front h 0 0 back
    two =
        ap (after_store (store PACKET_HEADER (record_text e))) one
        ∙ stored PACKET_HEADER head (take (record_weight e) behind) (drop (record_weight e) behind) (record_text e) (front h 0 0 behind) parts head_long
        (omega (arith, long, length-take (record_weight e) behind, length-drop PACKET_HEADER memory, length-record_text e))
        ∙ append_assoc (header_text h) (context_text h 0) back ∙ stands_so h 0 back

    three : after_store (store END_AT (word e.moment)) (after_store (store PACKET_HEADER (record_text e)) (after_store (store 0 head) memory))
        ≡ front (ending e.moment h) 0 0 back
    three = ap (after_store (store END_AT (word e.moment))) two ∙ end_stored h 0 0 e.moment back is.uuid

    four : after_store (store CONTENT_SIZE_AT (word bits)) (after_store (store END_AT (word e.moment)) (after_store (store PACKET_HEADER (record_text e))
        (after_store (store 0 head) memory))) ≡ front (ending e.moment h) bits 0 back
    four = ap (after_store (store CONTENT_SIZE_AT (word bits))) three ∙ content_stored (ending e.moment h) 0 0 bits back is.uuid

    last : List ℕ
    last = after_store (store PACKET_SIZE_AT (word bits)) (after_store (store CONTENT_SIZE_AT (word bits)) (after_store (store END_AT (word e.moment))
        (after_store (store PACKET_HEADER (record_text e)) (after_store (store 0 head) memory))))

    five : last ≡ front (ending e.moment h) bits bits back
    five = ap (after_store (store PACKET_SIZE_AT (word bits))) four ∙ size_stored (ending e.moment h) bits 0 bits back is.uuid

    after : (size : ℕ) (found : List ℕ) → found ≡ front (ending e.moment h) bits size back → Stands (contents (ending e.moment h) (e ∷ [])) found
    after size found it =
        subst (Stands (contents (ending e.moment h) (e ∷ [])))
        (sym (it ∙ ap (λ (n : ℕ). front (ending e.moment h) n size back) (omega (arith, weight_of-push [] e))
        ∙ ap (front (ending e.moment h) (8 * weight_of (e ∷ [])) size) (sym (records_push [] e (drop (record_weight e) behind)))))
        (stands (ending e.moment h) (e ∷ []) size (drop (record_weight e) behind) is)

    by_count : (n : ℕ) → NoneStands (after_stores (take n (begin_stores h e)) memory)
        ⊎ Stands (contents (ending e.moment h) (e ∷ [])) (after_stores (take n (begin_stores h e)) memory)
    by_count zero = inl (none_stands memory (omega (arith, long)) none)
    by_count (suc zero) = inl (subst NoneStands (sym one) (none_in_front h 0 behind is.uuid))
    by_count (suc (suc zero)) = inl (subst NoneStands (sym two) (none_in_front h 0 back is.uuid))
    by_count (suc (suc (suc zero))) = inl (subst NoneStands (sym three) (none_in_front (ending e.moment h) 0 back is.uuid))
    by_count (suc (suc (suc (suc zero)))) = inr (after 0 _ four)
    by_count (suc (suc (suc (suc (suc n))))) =
        inr (after bits (after_stores (take n []) last) (ap (λ (ss : List Store). after_stores ss last) (take_none n) ∙ five))

-- ---- losses

lost_stored : (h : Head) (content size lost : ℕ) (back : List ℕ) → length h.uuid ≡ 16
    → after_store (store LOST_AT (word lost)) (front h content size back) ≡ front (losing lost h) content size back
lost_stored h content size lost back sixteen =
    let first = early h ++ (word h.end ++ (word content ++ (word size ++ word h.seq))) in
    stored LOST_AT first (word h.lost) back (word lost) (front h content size back)
    (sym (in_six (early h) (word h.end) (word content) (word size) (word h.seq) (word h.lost ++ back)) ∙ refl)
    (omega (arith, early_long h sixteen, length-append (early h) (word h.end ++ (word content ++ (word size ++ word h.seq))))) refl
    ∙ in_six (early h) (word h.end) (word content) (word size) (word h.seq) (word lost ++ back)
  where
    in_six : (a b c d s l : List ℕ) → (a ++ (b ++ (c ++ (d ++ s)))) ++ l ≡ a ++ (b ++ (c ++ (d ++ (s ++ l))))
    in_six a b c d s l = simp append_assoc

pub lost-whole : (h : Head) (es : List Entry) (lost : ℕ) (stale : List ℕ) → IsPacket (contents h es) → IsPacket (contents (losing lost h) es)
    → Stands (contents (losing lost h) es) (after_store (store LOST_AT (to_le_bytes w64 lost)) (packet_text (contents h es) ++ stale))
lost-whole h es lost stale is more =
    let bits = 8 * weight_of es in
    subst (Stands (contents (losing lost h) es))
    (sym (ap (after_store (store LOST_AT (word lost))) (text_so (contents h es) stale) ∙ lost_stored h bits bits lost (records_text es ++ stale) is.uuid))
    (stands (losing lost h) es bits stale more)
