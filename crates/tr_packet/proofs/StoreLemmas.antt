-- Numbers that are written over those in a packet's text.
use Rattle.std.proofs.Common.{◌≡◌, ℕ, ◌+◌, ◌^◌, ◌<◌, ◌≤◌, List, ◌++◌, length, take, drop, refl, sym, ap, ◌∙◌, append_assoc, arith, length-append}
use Rattle.std.specs.Int.{w32, w64, from_le_bytes, to_le_bytes}
use Rattle.std.proofs.lemmas.List.{take_at, drop_at, length-take}
use Rattle.tr_record.proofs.Fields.{numeral_64}
use Rattle.tr_packet.specs.Decoding.{number_from}
use Rattle.tr_packet.specs.Packets.{magic, header_text, context_text}
use Rattle.tr_packet.specs.Stores.{with_extent, with_number}
use Rattle.tr_packet.specs.declared.head.Head.{Head}
use Rattle.tr_packet.specs.declared.layout.TheConstants.{CONTENT_SIZE_AT, END_AT, LOST_AT, PACKET_SIZE_AT, SEQ_AT}
use Rattle.tr_terms.specs.declared.limits.TheConstants.{PACKET_HEADER}

-- three parts, each known, one after another
pub three_parts : {a b c x y z : List ℕ} → a ≡ x → b ≡ y → c ≡ z → a ++ (b ++ c) ≡ x ++ (y ++ z)
three_parts first second third = cc

-- a part is another one then
replaced : (at to : ℕ) (front part back new bytes : List ℕ) → bytes ≡ front ++ (part ++ back) → length front ≡ at
    → length part + at ≡ to → take at bytes ++ (new ++ drop to bytes) ≡ front ++ (new ++ back)
replaced at to front part back new bytes is first second =
    let whole : bytes ≡ (front ++ part) ++ back = is ∙ sym (append_assoc front part back) in
    three_parts (ap (take at) is ∙ take_at front (part ++ back) at first) refl
    (ap (drop to) whole ∙ drop_at (front ++ part) back to (omega (arith, first, second, length-append front part)))

-- the fields before timestamp_end, those three that an extent has, and those after
in_three : (m u i s b e c z q l r : List ℕ)
    → (m ++ (u ++ (i ++ s))) ++ (((b ++ (e ++ (c ++ z))) ++ (q ++ l)) ++ r)
    ≡ ((m ++ (u ++ (i ++ s))) ++ b) ++ ((e ++ (c ++ z)) ++ ((q ++ l) ++ r))
in_three m u i s b e c z q l r = simp append_assoc

-- the same, with timestamp_end apart
end_apart : (m u i s b e c z q l r : List ℕ)
    → (m ++ (u ++ (i ++ s))) ++ (((b ++ (e ++ (c ++ z))) ++ (q ++ l)) ++ r)
    ≡ ((m ++ (u ++ (i ++ s))) ++ b) ++ (e ++ ((c ++ z) ++ ((q ++ l) ++ r)))
end_apart m u i s b e c z q l r = simp append_assoc

-- and with events_discarded apart
lost_apart : (m u i s b e c z q l r : List ℕ)
    → (m ++ (u ++ (i ++ s))) ++ (((b ++ (e ++ (c ++ z))) ++ (q ++ l)) ++ r)
    ≡ ((m ++ (u ++ (i ++ s))) ++ ((b ++ (e ++ (c ++ z))) ++ q)) ++ (l ++ r)
lost_apart m u i s b e c z q l r = simp append_assoc

before_end : (h : Head) → length h.uuid ≡ 16 → length (header_text h ++ to_le_bytes w64 h.begin) ≡ END_AT
before_end h sixteen =
    omega (
      arith,
      sixteen,
      length-append (header_text h) (to_le_bytes w64 h.begin),
      length-append h.uuid (to_le_bytes w32 0 ++ to_le_bytes w64 h.stream),
    )

-- a packet ends at another moment, and has another size
pub extent_over : (h : Head) (bits end size : ℕ) (back bytes : List ℕ) → length h.uuid ≡ 16
    → bytes ≡ header_text h ++ (context_text h bits ++ back)
    → with_extent end size bytes ≡ header_text (record h { end = end }) ++ (context_text (record h { end = end }) size ++ back)
extent_over h bits end size back bytes sixteen is =
    let word = to_le_bytes w64 in
    let parts = λ (e c : List ℕ). ((header_text h ++ word h.begin) ++ ((e ++ (c ++ c)) ++ ((word h.seq ++ word h.lost) ++ back))) in
    let old : bytes ≡ parts (word h.end) (word bits) =
    is ∙ in_three magic h.uuid (to_le_bytes w32 0) (word h.stream) (word h.begin) (word h.end) (word bits) (word bits) (word h.seq) (word h.lost) back in
    replaced END_AT SEQ_AT (header_text h ++ word h.begin) (word h.end ++ (word bits ++ word bits)) ((word h.seq ++ word h.lost) ++ back)
    (word end ++ (word size ++ word size)) bytes old (before_end h sixteen) refl
    ∙ sym (in_three magic h.uuid (to_le_bytes w32 0) (word h.stream) (word h.begin) (word end) (word size) (word size) (word h.seq) (word h.lost) back)

-- a packet ends at another moment
pub end_over : (h : Head) (bits end : ℕ) (back bytes : List ℕ) → length h.uuid ≡ 16
    → bytes ≡ header_text h ++ (context_text h bits ++ back)
    → with_number END_AT end bytes ≡ header_text (record h { end = end }) ++ (context_text (record h { end = end }) bits ++ back)
end_over h bits end back bytes sixteen is =
    let word = to_le_bytes w64 in
    let rest = (word bits ++ word bits) ++ ((word h.seq ++ word h.lost) ++ back) in
    let old : bytes ≡ (header_text h ++ word h.begin) ++ (word h.end ++ rest) =
    is ∙ end_apart magic h.uuid (to_le_bytes w32 0) (word h.stream) (word h.begin) (word h.end) (word bits) (word bits) (word h.seq) (word h.lost) back in
    replaced END_AT CONTENT_SIZE_AT (header_text h ++ word h.begin) (word h.end) rest (word end) bytes old (before_end h sixteen) refl
    ∙ sym (end_apart magic h.uuid (to_le_bytes w32 0) (word h.stream) (word h.begin) (word end) (word bits) (word bits) (word h.seq) (word h.lost) back)

before_lost : (h : Head) (bits : ℕ) → length h.uuid ≡ 16
    → length (header_text h ++ ((to_le_bytes w64 h.begin ++ (to_le_bytes w64 h.end ++ (to_le_bytes w64 bits ++ to_le_bytes w64 bits))) ++ to_le_bytes w64 h.seq)) ≡ LOST_AT
before_lost h bits sixteen =
    omega (
      arith,
      sixteen,
      length-append (header_text h) ((to_le_bytes w64 h.begin ++ (to_le_bytes w64 h.end ++ (to_le_bytes w64 bits ++ to_le_bytes w64 bits))) ++ to_le_bytes w64 h.seq),
      length-append h.uuid (to_le_bytes w32 0 ++ to_le_bytes w64 h.stream),
    )

-- a packet says that another number of records was discarded
pub lost_over : (h : Head) (bits lost : ℕ) (back bytes : List ℕ) → length h.uuid ≡ 16
    → bytes ≡ header_text h ++ (context_text h bits ++ back)
    → with_number LOST_AT lost bytes ≡ header_text (record h { lost = lost }) ++ (context_text (record h { lost = lost }) bits ++ back)
lost_over h bits lost back bytes sixteen is =
    let word = to_le_bytes w64 in
    let front = header_text h ++ ((word h.begin ++ (word h.end ++ (word bits ++ word bits))) ++ word h.seq) in
    let old : bytes ≡ front ++ (word h.lost ++ back) =
    is ∙ lost_apart magic h.uuid (to_le_bytes w32 0) (word h.stream) (word h.begin) (word h.end) (word bits) (word bits) (word h.seq) (word h.lost) back in
    replaced LOST_AT PACKET_HEADER front (word h.lost) back (word lost) bytes old (before_lost h bits sixteen) refl
    ∙ sym (lost_apart magic h.uuid (to_le_bytes w32 0) (word h.stream) (word h.begin) (word h.end) (word bits) (word bits) (word h.seq) (word lost) back)

-- what was written is read
pub number_written : (at number : ℕ) (bytes : List ℕ) → at + 8 ≤ length bytes → number < 2 ^ 64
    → number_from w64 at (with_number at number bytes) ≡ number
number_written at number bytes long small =
    let few : length (take at bytes) ≡ at = omega (arith, long, length-take at bytes) in
    ap (λ (t : List ℕ). from_le_bytes w64 (take 8 t)) (drop_at (take at bytes) (to_le_bytes w64 number ++ drop (at + 8) bytes) at few)
    ∙ ap (from_le_bytes w64) (take_at (to_le_bytes w64 number) (drop (at + 8) bytes) 8 (numeral_64.len number))
    ∙ numeral_64.read number small
