-- The fields of a packet's header and context: what is at each place, and what is read there.
use Rattle.std.proofs.Common.{◌≡◌, ℕ, ◌+◌, ◌*◌, ◌^◌, ◌<◌, ◌≤◌, List, [], ◌++◌, length, take, drop, refl, sym, ap, ◌∙◌, append_assoc, arith}
use Rattle.std.specs.Int.{Width, w32, w64, byte_len, from_le_bytes, to_le_bytes}
use Rattle.std.proofs.lemmas.List.{take_at, drop_at, drop-drop, take-append-drop, length-take, length-drop}
use Rattle.tr_record.specs.Records.{records_text}
use Rattle.tr_record.proofs.Fields.{AreBytes-take, AreBytes-drop, IsNumeral, numeral_32, numeral_64}
use Rattle.tr_record.specs.Whole.{AreBytes}
use Rattle.tr_packet.specs.Texts.{HeadFits}
use Rattle.tr_packet.specs.declared.head.Head.{Head}
use Rattle.tr_packet.specs.Packets.{Contents, contents, magic, header_text, context_text, packet_text, packet_size}
use Rattle.tr_packet.specs.Decoding.{number_from, bytes_from, stream_id_in, begin_in, end_in, content_bits_in, packet_bits_in, contents_in}
use Rattle.tr_terms.specs.declared.limits.TheConstants.{PACKET_HEADER}

-- ---- what is read of a text

-- what follows a text
behind : (k n j : ℕ) (text tail bytes : List ℕ) → drop k bytes ≡ text ++ tail → length text ≡ n → k + n ≡ j → drop j bytes ≡ tail
behind k n j text tail bytes stands len j-is =
    ap (λ (i : ℕ). drop i bytes) (sym j-is) ∙ sym (drop-drop n k bytes) ∙ ap (drop n) stands ∙ drop_at text tail n len

reads : (w : Width) (limit : ℕ) → IsNumeral w limit → (k n : ℕ) (tail bytes : List ℕ)
    → drop k bytes ≡ to_le_bytes w n ++ tail → n < limit → number_from w k bytes ≡ n
reads w limit numeral k n tail bytes stands below =
    ap (λ (t : List ℕ). from_le_bytes w (take (byte_len w) t)) stands
    ∙ ap (from_le_bytes w) (take_at (to_le_bytes w n) tail (byte_len w) (numeral.len n))
    ∙ numeral.read n below

-- ten fields, one after another
in_parts : (m u i s b e c z q l r : List ℕ)
    → (m ++ (u ++ (i ++ s))) ++ (((b ++ (e ++ (c ++ z))) ++ (q ++ l)) ++ r) ≡ m ++ (u ++ (i ++ (s ++ (b ++ (e ++ (c ++ (z ++ (q ++ (l ++ r)))))))))
in_parts m u i s b e c z q l r = simp append_assoc

-- what the fields of a packet say
pub record Fields (p : Contents) (bits : ℕ) (back bytes : List ℕ) : Type 0 where
  pub front : take 4 bytes ≡ magic
  pub uuid : bytes_from 16 4 bytes ≡ p.head.uuid
  pub stream_id : stream_id_in bytes ≡ 0
  pub stream : number_from w64 24 bytes ≡ p.head.stream
  pub begin : begin_in bytes ≡ p.head.begin
  pub end : end_in bytes ≡ p.head.end
  pub content : content_bits_in bytes ≡ bits
  pub size : packet_bits_in bytes ≡ bits
  pub seq : number_from w64 64 bytes ≡ p.head.seq
  pub lost : number_from w64 72 bytes ≡ p.head.lost
  pub tail : drop PACKET_HEADER bytes ≡ back

-- if the bytes start with a packet's header and context, their fields are read
pub front_read : (p : Contents) (bits : ℕ) (back bytes : List ℕ) → bytes ≡ header_text p.head ++ (context_text p.head bits ++ back)
    → HeadFits p.head → bits < 2 ^ 64 → Fields p bits back bytes
front_read p bits back bytes is fits small =
    let h = p.head in
    let t72 = to_le_bytes w64 h.lost ++ back in
    let t64 = to_le_bytes w64 h.seq ++ t72 in
    let t56 = to_le_bytes w64 bits ++ t64 in
    let t48 = to_le_bytes w64 bits ++ t56 in
    let t40 = to_le_bytes w64 h.end ++ t48 in
    let t32 = to_le_bytes w64 h.begin ++ t40 in
    let t24 = to_le_bytes w64 h.stream ++ t32 in
    let t20 = to_le_bytes w32 0 ++ t24 in
    let t4 = h.uuid ++ t20 in
    let at0 : bytes ≡ magic ++ t4 =
    is ∙ in_parts magic h.uuid (to_le_bytes w32 0) (to_le_bytes w64 h.stream) (to_le_bytes w64 h.begin)
    (to_le_bytes w64 h.end) (to_le_bytes w64 bits) (to_le_bytes w64 bits)
    (to_le_bytes w64 h.seq) (to_le_bytes w64 h.lost) back in
    let at4 : drop 4 bytes ≡ t4 = behind 0 4 4 magic t4 bytes at0 refl refl in
    let at20 : drop 20 bytes ≡ t20 = behind 4 16 20 h.uuid t20 bytes at4 fits.uuid refl in
    let at24 : drop 24 bytes ≡ t24 = behind 20 4 24 (to_le_bytes w32 0) t24 bytes at20 refl refl in
    let at32 : drop 32 bytes ≡ t32 = behind 24 8 32 (to_le_bytes w64 h.stream) t32 bytes at24 refl refl in
    let at40 : drop 40 bytes ≡ t40 = behind 32 8 40 (to_le_bytes w64 h.begin) t40 bytes at32 refl refl in
    let at48 : drop 48 bytes ≡ t48 = behind 40 8 48 (to_le_bytes w64 h.end) t48 bytes at40 refl refl in
    let at56 : drop 56 bytes ≡ t56 = behind 48 8 56 (to_le_bytes w64 bits) t56 bytes at48 refl refl in
    let at64 : drop 64 bytes ≡ t64 = behind 56 8 64 (to_le_bytes w64 bits) t64 bytes at56 refl refl in
    let at72 : drop 72 bytes ≡ t72 = behind 64 8 72 (to_le_bytes w64 h.seq) t72 bytes at64 refl refl in
    record {
      front = ap (take 4) at0 ∙ take_at magic t4 4 refl;
      uuid = ap (take 16) at4 ∙ take_at h.uuid t20 16 fits.uuid;
      stream_id = reads w32 (2 ^ 32) numeral_32 20 0 t24 bytes at20 (omega arith);
      stream = reads w64 (2 ^ 64) numeral_64 24 h.stream t32 bytes at24 fits.stream;
      begin = reads w64 (2 ^ 64) numeral_64 32 h.begin t40 bytes at32 fits.begin;
      end = reads w64 (2 ^ 64) numeral_64 40 h.end t48 bytes at40 fits.end;
      content = reads w64 (2 ^ 64) numeral_64 48 bits t56 bytes at48 small;
      size = reads w64 (2 ^ 64) numeral_64 56 bits t64 bytes at56 small;
      seq = reads w64 (2 ^ 64) numeral_64 64 h.seq t72 bytes at64 fits.seq;
      lost = reads w64 (2 ^ 64) numeral_64 72 h.lost back bytes at72 fits.lost;
      tail = behind 72 8 PACKET_HEADER (to_le_bytes w64 h.lost) back bytes at72 refl refl;
    }

-- so are those of a packet's text
pub fields_read : (p : Contents) (rest bytes : List ℕ) → bytes ≡ packet_text p ++ rest → HeadFits p.head
    → 8 * packet_size p < 2 ^ 64 → Fields p (8 * packet_size p) (records_text p.records ++ rest) bytes
fields_read p rest bytes is =
    let bits = 8 * packet_size p in
    front_read p bits (records_text p.records ++ rest) bytes
    (is ∙ append_assoc (header_text p.head) (context_text p.head bits ++ records_text p.records) rest
    ∙ ap (λ (t : List ℕ). header_text p.head ++ t) (append_assoc (context_text p.head bits) (records_text p.records) rest))

abbrev head_with : List ℕ → ℕ → ℕ → ℕ → ℕ → ℕ → Head
head_with u s b e q l = record { uuid = u; stream = s; begin = b; end = e; seq = q; lost = l }

same_head : {u v : List ℕ} {s s' b b' e e' q q' l l' : ℕ} → u ≡ v → s ≡ s' → b ≡ b' → e ≡ e' → q ≡ q' → l ≡ l'
    → head_with u s b e q l ≡ head_with v s' b' e' q' l'
same_head u s b e q l = cc

-- and the head is what was written
pub head_read : (h : Head) (bits : ℕ) (back bytes : List ℕ) → bytes ≡ header_text h ++ (context_text h bits ++ back)
    → HeadFits h → bits < 2 ^ 64 → ((contents_in bytes).head ≡ h) × (content_bits_in bytes ≡ bits)
head_read h bits back bytes is fits small =
    let f = front_read (contents h []) bits back bytes is fits small in
    (same_head f.uuid f.stream f.begin f.end f.seq f.lost, f.content)

-- ---- what the bytes are if fields are read

-- a part of the bytes, and what follows it
cut : (k n j : ℕ) (bytes : List ℕ) → k + n ≡ j → drop k bytes ≡ bytes_from n k bytes ++ drop j bytes
cut k n j bytes j-is = sym (take-append-drop n (drop k bytes))
    ∙ ap (λ (t : List ℕ). bytes_from n k bytes ++ t) (drop-drop n k bytes ∙ ap (λ (i : ℕ). drop i bytes) j-is)

-- if a number is read, its text is there
stands : (w : Width) (limit : ℕ) → IsNumeral w limit → (k j : ℕ) (bytes : List ℕ) → AreBytes bytes → k + byte_len w ≡ j
    → j ≤ length bytes → drop k bytes ≡ to_le_bytes w (number_from w k bytes) ++ drop j bytes
stands w limit numeral k j bytes small j-is long =
    let part = bytes_from (byte_len w) k bytes in
    let len : length part ≡ byte_len w = omega (arith, length-take (byte_len w) (drop k bytes), length-drop k bytes) in
    let text = numeral.written part len (AreBytes-take (byte_len w) (drop k bytes) (AreBytes-drop k bytes small)) in
    cut k (byte_len w) j bytes j-is ∙ ap (λ (t : List ℕ). t ++ drop j bytes) (sym text)

-- bytes with the magic, the stream_id 0 and equal sizes begin with a header and a context
pub fields_stand : (bytes : List ℕ) → AreBytes bytes → PACKET_HEADER ≤ length bytes → take 4 bytes ≡ magic → stream_id_in bytes ≡ 0
    → content_bits_in bytes ≡ packet_bits_in bytes
    → bytes ≡ header_text (contents_in bytes).head ++ (context_text (contents_in bytes).head (packet_bits_in bytes) ++ drop PACKET_HEADER bytes)
fields_stand bytes small long front id sizes =
    let h = (contents_in bytes).head in
    let bits = packet_bits_in bytes in
    let at72 = stands w64 (2 ^ 64) numeral_64 72 PACKET_HEADER bytes small refl (omega arith) in
    let at64 = stands w64 (2 ^ 64) numeral_64 64 72 bytes small refl (omega arith) in
    let at56 = stands w64 (2 ^ 64) numeral_64 56 64 bytes small refl (omega arith) in
    let at48 = stands w64 (2 ^ 64) numeral_64 48 56 bytes small refl (omega arith) ∙ ap (λ (n : ℕ). to_le_bytes w64 n ++ drop 56 bytes) sizes in
    let at40 = stands w64 (2 ^ 64) numeral_64 40 48 bytes small refl (omega arith) in
    let at32 = stands w64 (2 ^ 64) numeral_64 32 40 bytes small refl (omega arith) in
    let at24 = stands w64 (2 ^ 64) numeral_64 24 32 bytes small refl (omega arith) in
    let at20 = stands w32 (2 ^ 32) numeral_32 20 24 bytes small refl (omega arith) ∙ ap (λ (n : ℕ). to_le_bytes w32 n ++ drop 24 bytes) id in
    let at4 = cut 4 16 20 bytes refl in
    let at0 : bytes ≡ magic ++ drop 4 bytes = sym (take-append-drop 4 bytes) ∙ ap (λ (t : List ℕ). t ++ drop 4 bytes) front in
    let s64 = at64 ∙ ap (λ (t : List ℕ). to_le_bytes w64 h.seq ++ t) at72 in
    let s56 = at56 ∙ ap (λ (t : List ℕ). to_le_bytes w64 bits ++ t) s64 in
    let s48 = at48 ∙ ap (λ (t : List ℕ). to_le_bytes w64 bits ++ t) s56 in
    let s40 = at40 ∙ ap (λ (t : List ℕ). to_le_bytes w64 h.end ++ t) s48 in
    let s32 = at32 ∙ ap (λ (t : List ℕ). to_le_bytes w64 h.begin ++ t) s40 in
    let s24 = at24 ∙ ap (λ (t : List ℕ). to_le_bytes w64 h.stream ++ t) s32 in
    let s20 = at20 ∙ ap (λ (t : List ℕ). to_le_bytes w32 0 ++ t) s24 in
    let s4 = at4 ∙ ap (λ (t : List ℕ). h.uuid ++ t) s20 in
    at0 ∙ ap (λ (t : List ℕ). magic ++ t) s4
    ∙ sym (in_parts magic h.uuid (to_le_bytes w32 0) (to_le_bytes w64 h.stream) (to_le_bytes w64 h.begin)
    (to_le_bytes w64 h.end) (to_le_bytes w64 bits) (to_le_bytes w64 bits)
    (to_le_bytes w64 h.seq) (to_le_bytes w64 h.lost) (drop PACKET_HEADER bytes))
