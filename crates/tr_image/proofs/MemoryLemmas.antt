-- What stands in memory: content_size in the place of packet_size.
use Rattle.std.proofs.Common.{◌≡◌, ◌<◌, ◌≤◌, ◌⊎◌, inl, inr, ◌/◌, ◌%◌, ◌∙◌, ◌&&◌, ℕ, Bool, true, false, not, cond, zero, suc, List, [], ◌∷◌, ◌++◌, Option, Some, None, length, take, drop, refl, sym, ap, subst, arith, append-nil, append_assoc, length-append, nat_eq, take_all}
use Rattle.std.specs.Prelude.{is_none}
use Rattle.std.specs.Int.{w64, from_le_bytes}
use Rattle.std.specs.List.{starts_with}
use Rattle.std.specs.Option.{option_or}
use Rattle.std.specs.Str.{bytes_eq}
use Rattle.std.proofs.lemmas.Bool.{cases_lt}
use Rattle.std.proofs.lemmas.List.{drop-append-le, drop-take, length-drop, length-take, take-append-drop, take-append-le, take-take, take_at, drop_at}
use Rattle.std.proofs.lemmas.Slice.Eq.{bytes_eq-Decides}
use Rattle.tr_packet.specs.Decoding.{Begins, begin_in, body_in, bytes_from, content_bits_in, contents_in, end_in, first_fault, front_fault, packet_bits_in, records_fault}
use Rattle.tr_packet.specs.Packets.{Contents, IsPacket, contents, magic, packet_size, packet_text}
use Rattle.tr_packet.specs.Stores.{with_number}
use Rattle.tr_packet.specs.Texts.{body_of}
use Rattle.tr_packet.specs.declared.faults.PacketFault.{PacketFault}
use Rattle.tr_packet.specs.declared.layout.TheConstants.{CONTENT_SIZE_AT, PACKET_SIZE_AT, SEQ_AT}
use Rattle.tr_packet.proofs.DecodingLemmas.{Passes, front_passes, packet_decoded, packet_read}
use Rattle.tr_packet.proofs.TextLemmas.{length-packet_text}
use Rattle.tr_record.proofs.Fields.{AreBytes-drop, AreBytes-take, numeral_64}
use Rattle.tr_record.specs.Whole.{AreBytes, AreWhole, entries_at, entries_of}
use Rattle.tr_image.specs.Image.{packet_at, packet_of}
use Rattle.tr_subbuf.specs.Stores.{NoneStands, Stands, committed}
use Rattle.tr_terms.specs.declared.limits.TheConstants.{LARGEST_PACKET, PACKET_HEADER}

-- ---- one number for another

-- what is behind the header doesn't matter
pub committed-append : (memory more : List ℕ) → SEQ_AT ≤ length memory → committed (memory ++ more) ≡ committed memory ++ more
committed-append memory more long =
    let one = take-append-le PACKET_SIZE_AT memory more (omega (arith, long)) in
    let two : bytes_from 8 CONTENT_SIZE_AT (memory ++ more) ≡ bytes_from 8 CONTENT_SIZE_AT memory =
    ap (take 8) (drop-append-le CONTENT_SIZE_AT memory more (omega (arith, long)))
    ∙ take-append-le 8 (drop CONTENT_SIZE_AT memory) more (omega (arith, long, length-drop CONTENT_SIZE_AT memory)) in
    let three = drop-append-le SEQ_AT memory more long in
    ap (λ (t : List ℕ). t ++ (bytes_from 8 CONTENT_SIZE_AT (memory ++ more) ++ drop SEQ_AT (memory ++ more))) one
    ∙ ap (λ (t : List ℕ). take PACKET_SIZE_AT memory ++ (t ++ drop SEQ_AT (memory ++ more))) two
    ∙ ap (λ (t : List ℕ). take PACKET_SIZE_AT memory ++ (bytes_from 8 CONTENT_SIZE_AT memory ++ t)) three
    ∙ regroup (take PACKET_SIZE_AT memory) (bytes_from 8 CONTENT_SIZE_AT memory) (drop SEQ_AT memory) more
  where
    regroup : (a b c d : List ℕ) → a ++ (b ++ (c ++ d)) ≡ (a ++ (b ++ c)) ++ d
    regroup a b c d = simp append_assoc

pub length-committed : (memory : List ℕ) → SEQ_AT ≤ length memory → length (committed memory) ≡ length memory
length-committed memory long =
    omega (
      arith,
      long,
      length-append (take PACKET_SIZE_AT memory) (bytes_from 8 CONTENT_SIZE_AT memory ++ drop SEQ_AT memory),
      length-append (bytes_from 8 CONTENT_SIZE_AT memory) (drop SEQ_AT memory),
      length-take PACKET_SIZE_AT memory,
      length-take 8 (drop CONTENT_SIZE_AT memory),
      length-drop CONTENT_SIZE_AT memory,
      length-drop SEQ_AT memory,
    )

-- so many bytes come of as many
pub long_enough : (memory : List ℕ) → PACKET_HEADER ≤ length (committed memory) → PACKET_HEADER ≤ length memory
long_enough memory long =
    omega (
      arith,
      long,
      length-append (take PACKET_SIZE_AT memory) (bytes_from 8 CONTENT_SIZE_AT memory ++ drop SEQ_AT memory),
      length-append (bytes_from 8 CONTENT_SIZE_AT memory) (drop SEQ_AT memory),
      length-take PACKET_SIZE_AT memory,
      length-take 8 (drop CONTENT_SIZE_AT memory),
      length-drop CONTENT_SIZE_AT memory,
      length-drop SEQ_AT memory,
    )

pub AreBytes-append : (xs ys : List ℕ) → AreBytes xs → AreBytes ys → AreBytes (xs ++ ys)
AreBytes-append [] ys one two i = two i
AreBytes-append (x ∷ xs) ys one two zero = one zero
AreBytes-append (x ∷ xs) ys one two (suc i) = AreBytes-append xs ys (λ j. one (suc j)) two i

pub AreBytes-committed : (memory : List ℕ) → AreBytes memory → AreBytes (committed memory)
AreBytes-committed memory small =
    AreBytes-append (take PACKET_SIZE_AT memory) (bytes_from 8 CONTENT_SIZE_AT memory ++ drop SEQ_AT memory) (AreBytes-take PACKET_SIZE_AT memory small)
    (AreBytes-append (bytes_from 8 CONTENT_SIZE_AT memory) (drop SEQ_AT memory) (AreBytes-take 8 (drop CONTENT_SIZE_AT memory) (AreBytes-drop CONTENT_SIZE_AT memory small))
    (AreBytes-drop SEQ_AT memory small))

-- the number is written over the other one
pub committed-written : (memory : List ℕ) → SEQ_AT ≤ length memory → AreBytes memory
    → with_number PACKET_SIZE_AT (content_bits_in memory) memory ≡ committed memory
committed-written memory long small =
    let number = bytes_from 8 CONTENT_SIZE_AT memory in
    let eight : length number ≡ 8 = omega (arith, long, length-take 8 (drop CONTENT_SIZE_AT memory), length-drop CONTENT_SIZE_AT memory) in
    ap (λ (t : List ℕ). take PACKET_SIZE_AT memory ++ (t ++ drop SEQ_AT memory))
    (numeral_64.written number eight (AreBytes-take 8 (drop CONTENT_SIZE_AT memory) (AreBytes-drop CONTENT_SIZE_AT memory small)))

-- both numbers are content_size then
content_kept : (memory : List ℕ) → SEQ_AT ≤ length memory → content_bits_in (committed memory) ≡ content_bits_in memory
content_kept memory long =
    let start = take PACKET_SIZE_AT memory in
    let rest = bytes_from 8 CONTENT_SIZE_AT memory ++ drop SEQ_AT memory in
    let few : length start ≡ PACKET_SIZE_AT = omega (arith, long, length-take PACKET_SIZE_AT memory) in
    ap (from_le_bytes w64)
    (ap (take 8) (drop-append-le CONTENT_SIZE_AT start rest (omega (arith, few)))
    ∙ take-append-le 8 (drop CONTENT_SIZE_AT start) rest (omega (arith, few, length-drop CONTENT_SIZE_AT start))
    ∙ ap (take 8) (drop-take CONTENT_SIZE_AT 8 memory) ∙ take-take 8 8 (drop CONTENT_SIZE_AT memory) (omega arith))

size_kept : (memory : List ℕ) → SEQ_AT ≤ length memory → packet_bits_in (committed memory) ≡ content_bits_in memory
size_kept memory long =
    let start = take PACKET_SIZE_AT memory in
    let number = bytes_from 8 CONTENT_SIZE_AT memory in
    let few : length start ≡ PACKET_SIZE_AT = omega (arith, long, length-take PACKET_SIZE_AT memory) in
    let eight : length number ≡ 8 = omega (arith, long, length-take 8 (drop CONTENT_SIZE_AT memory), length-drop CONTENT_SIZE_AT memory) in
    ap (λ (t : List ℕ). from_le_bytes w64 (take 8 t)) (drop_at start (number ++ drop SEQ_AT memory) PACKET_SIZE_AT few)
    ∙ ap (from_le_bytes w64) (take_at number (drop SEQ_AT memory) 8 eight)

front_kept : (memory : List ℕ) → SEQ_AT ≤ length memory → take 4 (committed memory) ≡ take 4 memory
front_kept memory long =
    take-append-le 4 (take PACKET_SIZE_AT memory) (bytes_from 8 CONTENT_SIZE_AT memory ++ drop SEQ_AT memory)
    (omega (arith, long, length-take PACKET_SIZE_AT memory)) ∙ take-take 4 PACKET_SIZE_AT memory (omega arith)

-- the bytes of a size alone
parted : (n : ℕ) (memory : List ℕ) → SEQ_AT ≤ n → n ≤ length memory → committed memory ≡ committed (take n memory) ++ drop n memory
parted n memory low there =
    ap committed (sym (take-append-drop n memory))
    ∙ committed-append (take n memory) (drop n memory) (omega (arith, low, there, length-take n memory))

-- ---- what stands

no_first_fault : (f g : Option PacketFault) → option_or f g ≡ None → f ≡ None
no_first_fault None g e = refl
no_first_fault (Some f) g e = absurd cc

passes : (p : Contents) (rest bytes : List ℕ) → Begins p rest bytes → Passes bytes
passes p rest bytes begins =
    front_passes bytes
    (no_first_fault (front_fault bytes) (records_fault (begin_in bytes) (end_in bytes) (entries_at (body_in bytes))) (packet_read p rest bytes begins).sound)

-- what memory says of a packet that stands there
pub record Shows (p : Contents) (memory : List ℕ) : Type 0 where
  pub long : PACKET_HEADER ≤ length memory
  pub front : take 4 memory ≡ magic
  pub whole : content_bits_in memory % 8 ≡ 0
  pub size : content_bits_in memory / 8 ≡ packet_size p
  pub low : PACKET_HEADER ≤ content_bits_in memory / 8
  pub high : content_bits_in memory / 8 ≤ LARGEST_PACKET
  pub there : content_bits_in memory / 8 ≤ length memory

pub shows : (p : Contents) (memory : List ℕ) → Stands p memory → Shows p memory
shows p memory stands =
    let pass = passes p stands.rest (committed memory) stands.begins in
    let long : PACKET_HEADER ≤ length memory = long_enough memory pass.long in
    let enough : SEQ_AT ≤ length memory = omega (arith, long) in
    let size = size_kept memory enough in
    let text : packet_bits_in (committed memory) / 8 ≡ packet_size p = (packet_read p stands.rest (committed memory) stands.begins).size in
    record {
      long = long;
      front = sym (front_kept memory enough) ∙ pass.front;
      whole = ap (λ (n : ℕ). n % 8) (sym size) ∙ pass.whole;
      size = ap (λ (n : ℕ). n / 8) (sym size) ∙ text;
      low = omega (arith, size, pass.low);
      high = omega (arith, size, pass.high);
      there = omega (arith, size, pass.there, length-committed memory enough);
    }

pub front_starts : (memory : List ℕ) → take 4 memory ≡ magic → starts_with nat_eq memory magic ≡ true
front_starts memory front = rw front refl

-- it stands in the bytes of its size alone
pub alone : (p : Contents) (memory : List ℕ) (n : ℕ) → Stands p memory → n ≡ content_bits_in memory / 8 → Begins p [] (committed (take n memory))
alone p memory n stands size =
    let says = shows p memory stands in
    let low : SEQ_AT ≤ n = omega (arith, size, says.low) in
    let there : n ≤ length memory = omega (arith, size, says.there) in
    let few : length (take n memory) ≡ n = omega (arith, there, length-take n memory) in
    let first : length (committed (take n memory)) ≡ n = omega (arith, few, low, length-committed (take n memory) (omega (arith, few, low))) in
    let second : length (packet_text p) ≡ n = omega (arith, length-packet_text p stands.begins.packet.uuid, size, says.size) in
    record {
      packet = stands.begins.packet;
      parts =
          sym (take_at (committed (take n memory)) (drop n memory) n first) ∙ ap (take n) (sym (parted n memory low there) ∙ stands.begins.parts)
          ∙ take_at (packet_text p) stands.rest n second ∙ sym (append-nil (packet_text p));
    }

-- and what stands in fewer bytes stands in all
pub among : (p : Contents) (rest memory : List ℕ) (n : ℕ) → SEQ_AT ≤ n → n ≤ length memory → Begins p rest (committed (take n memory))
    → Stands p memory
among p rest memory n low there begins = record {
  rest = rest ++ drop n memory;
  begins = record {
    packet = begins.packet;
    parts =
        parted n memory low there ∙ ap (λ (t : List ℕ). t ++ drop n memory) begins.parts ∙ append_assoc (packet_text p) rest (drop n memory);
  };
}

-- ---- the packet that is answered

pub other_fault : (uuid bytes : List ℕ) (f : PacketFault) → first_fault bytes ≡ Some f → packet_of uuid bytes ≡ None
other_fault uuid bytes f e = rw e refl

pub same_trace : (uuid bytes : List ℕ) (p : Contents) → first_fault bytes ≡ None → contents_in bytes ≡ p → bytes_eq p.head.uuid uuid ≡ true
    → packet_of uuid bytes ≡ Some p
same_trace uuid bytes p none is same =
    let test : bytes_eq (contents_in bytes).head.uuid uuid ≡ true = ap (λ (q : Contents). bytes_eq q.head.uuid uuid) is ∙ same in
    rw (none, test) (ap Some is)

pub other_trace : (uuid bytes : List ℕ) (p : Contents) → contents_in bytes ≡ p → bytes_eq p.head.uuid uuid ≡ false → packet_of uuid bytes ≡ None
other_trace uuid bytes p is other =
    let test : bytes_eq (contents_in bytes).head.uuid uuid ≡ false = ap (λ (q : Contents). bytes_eq q.head.uuid uuid) is ∙ other in
    go (is_none (first_fault bytes)) (bytes_eq (contents_in bytes).head.uuid uuid) (contents_in bytes) test
  where
    go : (one two : Bool) (q : Contents) → two ≡ false → cond (one && two) (Some q) None ≡ None
    go true two q e = rw e refl
    go false two q e = refl

-- a packet that begins bytes is the one that is answered
begun : (p : Contents) (rest bytes : List ℕ) → Begins p rest bytes → (first_fault bytes ≡ None) × (contents_in bytes ≡ p)
begun p rest bytes begins = let read = packet_read p rest bytes begins in (read.sound, read.contents)

decoded : (bytes : List ℕ) → AreBytes bytes → first_fault bytes ≡ None → Begins (contents_in bytes) (drop (packet_bits_in bytes / 8) bytes) bytes
decoded bytes small none = let it = packet_decoded bytes small none in record { packet = it.packet; parts = it.parts }

pub nothing_stands : (uuid memory : List ℕ) → AreBytes memory → NoneStands memory → packet_at uuid memory ≡ None
nothing_stands uuid memory small none = go (first_fault (committed memory)) refl
  where
    go : (fault : Option PacketFault) → first_fault (committed memory) ≡ fault → packet_at uuid memory ≡ None
    go (Some f) e = other_fault uuid (committed memory) f e
    go None e =
        absurd (none (contents_in (committed memory)) (record {
          rest = drop (packet_bits_in (committed memory) / 8) (committed memory);
          begins = decoded (committed memory) (AreBytes-committed memory small) e;
        }))

-- the bytes of content_size tell it
pub told_alone : (uuid memory : List ℕ) (n : ℕ) → AreBytes memory → n ≡ content_bits_in memory / 8 → PACKET_HEADER ≤ n → n ≤ length memory
    → packet_of uuid (committed (take n memory)) ≡ packet_at uuid memory
told_alone uuid memory n small size low there = go (first_fault (committed (take n memory))) refl (first_fault (committed memory)) refl
  where
    few : List ℕ
    few = committed (take n memory)

    both : (p : Contents) (first second : List ℕ) → Begins p first few → Begins p second (committed memory) → packet_of uuid few ≡ packet_at uuid memory
    both p first second one two =
        let a = begun p first few one in
        let b = begun p second (committed memory) two in
        by_trace (bytes_eq p.head.uuid uuid) refl a b
      where
        by_trace : (t : Bool) → bytes_eq p.head.uuid uuid ≡ t → ((first_fault few ≡ None) × (contents_in few ≡ p))
            → ((first_fault (committed memory) ≡ None) × (contents_in (committed memory) ≡ p)) → packet_of uuid few ≡ packet_at uuid memory
        by_trace true e a b =
            same_trace uuid few p a.0 a.1 e ∙ sym (same_trace uuid (committed memory) p b.0 b.1 e)
        by_trace false e a b = other_trace uuid few p a.1 e ∙ sym (other_trace uuid (committed memory) p b.1 e)

    go : (one : Option PacketFault) → first_fault few ≡ one → (two : Option PacketFault) → first_fault (committed memory) ≡ two
        → packet_of uuid few ≡ packet_at uuid memory
    go None e two e' =
        let begins = decoded few (AreBytes-committed (take n memory) (AreBytes-take n memory small)) e in
        let stands = among (contents_in few) (drop (packet_bits_in few / 8) few) memory n (omega (arith, low)) there begins in
        both (contents_in few) (drop (packet_bits_in few / 8) few) stands.rest begins stands.begins
    go (Some f) e None e' =
        let begins = decoded (committed memory) (AreBytes-committed memory small) e' in
        let stands : Stands (contents_in (committed memory)) memory = record { rest = drop (packet_bits_in (committed memory) / 8) (committed memory); begins = begins } in
        let one = alone (contents_in (committed memory)) memory n stands size in
        both (contents_in (committed memory)) [] stands.rest one begins
    go (Some f) e (Some g) e' = other_fault uuid few f e ∙ sym (other_fault uuid (committed memory) g e')

-- the size of a content alone
pub content_alone : (memory : List ℕ) (n : ℕ) → PACKET_HEADER ≤ n → n ≤ length memory → content_bits_in (take n memory) ≡ content_bits_in memory
content_alone memory n low there =
    let few : length (take n memory) ≡ n = omega (arith, there, length-take n memory) in
    let split : memory ≡ take n memory ++ drop n memory = sym (take-append-drop n memory) in
    let same : take 8 (drop CONTENT_SIZE_AT memory) ≡ take 8 (drop CONTENT_SIZE_AT (take n memory)) =
    ap (λ (t : List ℕ). take 8 (drop CONTENT_SIZE_AT t)) split
    ∙ ap (λ (t : List ℕ). take 8 t) (drop-append-le CONTENT_SIZE_AT (take n memory) (drop n memory) (omega (arith, few, low)))
    ∙ take-append-le 8 (drop CONTENT_SIZE_AT (take n memory)) (drop n memory) (omega (arith, few, low, length-drop CONTENT_SIZE_AT (take n memory))) in
    ap (λ (t : List ℕ). from_le_bytes w64 t) (sym same)

-- what is committed is as large as it says
pub committed_size : (bits : ℕ) (bytes new : List ℕ) → PACKET_HEADER ≤ length bytes → AreBytes bytes → bits ≡ content_bits_in bytes
    → bits / 8 ≡ length bytes → new ≡ with_number PACKET_SIZE_AT bits bytes → (new ≡ committed bytes) × (packet_bits_in new / 8 ≡ length new)
committed_size bits bytes new long small is size written =
    let enough : SEQ_AT ≤ length bytes = omega (arith, long) in
    let same : new ≡ committed bytes =
    written ∙ ap (λ (n : ℕ). with_number PACKET_SIZE_AT n bytes) is ∙ committed-written bytes enough small in
    let stated : packet_bits_in new ≡ bits = ap packet_bits_in same ∙ size_kept bytes enough ∙ sym is in
    let as_long : length new ≡ length bytes = ap (λ (t : List ℕ). length t) same ∙ length-committed bytes enough in (
      same,
      ap (λ (n : ℕ). n / 8) stated ∙ size ∙ sym as_long,
    )

-- so the bytes of a content are enough
pub content_told : (uuid memory copy new : List ℕ) (bits : ℕ) → AreBytes memory → bits ≡ content_bits_in memory → PACKET_HEADER ≤ bits / 8
    → bits / 8 ≤ length memory → copy ≡ take (bits / 8) memory → new ≡ with_number PACKET_SIZE_AT bits copy
    → (packet_bits_in new / 8 ≡ length new) × AreBytes new × (packet_of uuid new ≡ packet_at uuid memory)
content_told uuid memory copy new bits small is low there copied written =
    let n = bits / 8 in
    let few : length (take n memory) ≡ n = omega (arith, there, length-take n memory) in
    let size =
    committed_size bits (take n memory) new (omega (arith, few, low)) (AreBytes-take n memory small) (is ∙ sym (content_alone memory n low there))
    (sym few) (written ∙ ap (with_number PACKET_SIZE_AT bits) copied) in (
      size.1,
      subst AreBytes (sym size.0) (AreBytes-committed (take n memory) (AreBytes-take n memory small)),
      ap (packet_of uuid) size.0 ∙ told_alone uuid memory n small (ap (λ (k : ℕ). k / 8) is) low there,
    )

-- ---- a text of which nothing is left over

pub record IsAll (p : Contents) (bytes : List ℕ) : Type 0 where
  pub none : first_fault bytes ≡ None
  pub is : contents_in bytes ≡ p
  pub packet : IsPacket (contents p.head (entries_of (body_of bytes)))
  pub whole : AreWhole (body_of bytes)
  pub records : entries_of (body_of bytes) ≡ p.records

pub all_of : (p : Contents) (rest bytes text : List ℕ) → AreBytes bytes → packet_bits_in bytes / 8 ≡ length bytes → text ≡ bytes
    → Begins p rest text → IsAll p bytes
all_of p rest bytes text small size same starts =
    let begins : Begins p rest bytes = subst (Begins p rest) same starts in
    let read = packet_read p rest bytes begins in
    let it = packet_decoded bytes small read.sound in
    let body : body_in bytes ≡ body_of bytes =
    ap (λ (n : ℕ). drop PACKET_HEADER (take n bytes)) size ∙ ap (drop PACKET_HEADER) (take_all (length bytes) bytes (omega arith)) in
    let records : entries_of (body_of bytes) ≡ p.records =
    ap entries_of (sym body) ∙ ap (λ (q : Contents). q.records) read.contents in
    record {
      none = read.sound;
      is = read.contents;
      packet = subst IsPacket (sym (ap (contents p.head) records)) begins.packet;
      whole = subst AreWhole body it.whole;
      records = records;
    }

pub flipped : (test other : Bool) → not test ≡ other → test ≡ not other
flipped true other e = ap not e
flipped false other e = ap not e

-- ---- as many bytes as a packet may have

content_more : (memory more : List ℕ) → PACKET_HEADER ≤ length memory → content_bits_in (memory ++ more) ≡ content_bits_in memory
content_more memory more long =
    let same : take 8 (drop CONTENT_SIZE_AT (memory ++ more)) ≡ take 8 (drop CONTENT_SIZE_AT memory) =
    ap (λ (t : List ℕ). take 8 t) (drop-append-le CONTENT_SIZE_AT memory more (omega (arith, long)))
    ∙ take-append-le 8 (drop CONTENT_SIZE_AT memory) more (omega (arith, long, length-drop CONTENT_SIZE_AT memory)) in
    ap (λ (t : List ℕ). from_le_bytes w64 t) same

none_if_low : (memory : List ℕ) → content_bits_in memory / 8 < PACKET_HEADER → NoneStands memory
none_if_low memory few p stands = let says = shows p memory stands in absurd (omega (arith, few, says.low))

none_if_high : (memory : List ℕ) → LARGEST_PACKET < content_bits_in memory / 8 → NoneStands memory
none_if_high memory many p stands = let says = shows p memory stands in absurd (omega (arith, many, says.high))

-- what follows them tells nothing
pub enough : (uuid memory more : List ℕ) → AreBytes memory → AreBytes more → LARGEST_PACKET ≤ length memory
    → packet_at uuid (memory ++ more) ≡ packet_at uuid memory
enough uuid memory more small rest long = by_size (cases_lt n PACKET_HEADER) (cases_lt LARGEST_PACKET n)
  where
    n : ℕ
    n = content_bits_in memory / 8

    all : AreBytes (memory ++ more)
    all = AreBytes-append memory more small rest

    same : content_bits_in (memory ++ more) / 8 ≡ n
    same = ap (λ (k : ℕ). k / 8) (content_more memory more (omega (arith, long)))

    by_size : (n < PACKET_HEADER ⊎ PACKET_HEADER ≤ n) → (LARGEST_PACKET < n ⊎ n ≤ LARGEST_PACKET) → packet_at uuid (memory ++ more) ≡ packet_at uuid memory
    by_size (inl few) other =
        nothing_stands uuid (memory ++ more) all (none_if_low (memory ++ more) (omega (arith, same, few)))
        ∙ sym (nothing_stands uuid memory small (none_if_low memory few))
    by_size (inr low) (inl many) =
        nothing_stands uuid (memory ++ more) all (none_if_high (memory ++ more) (omega (arith, same, many)))
        ∙ sym (nothing_stands uuid memory small (none_if_high memory many))
    by_size (inr low) (inr high) =
        sym (told_alone uuid (memory ++ more) n all (sym same) low (omega (arith, high, long, length-append memory more)))
        ∙ ap (λ (t : List ℕ). packet_of uuid (committed t)) (take-append-le n memory more (omega (arith, high, long)))
        ∙ told_alone uuid memory n small refl low (omega (arith, high, long))

-- ---- what is answered stands there, and what stands there is answered

pub found_stands : (uuid memory : List ℕ) (p : Contents) → AreBytes memory → packet_at uuid memory ≡ Some p → Stands p memory × (p.head.uuid ≡ uuid)
found_stands uuid memory p small is = go (first_fault (committed memory)) refl (bytes_eq (contents_in (committed memory)).head.uuid uuid) refl is
  where
    go : (fault : Option PacketFault) → first_fault (committed memory) ≡ fault → (test : Bool) → bytes_eq (contents_in (committed memory)).head.uuid uuid ≡ test
        → cond (is_none fault && test) (Some (contents_in (committed memory))) None ≡ Some p → Stands p memory × (p.head.uuid ≡ uuid)
    go (Some f) e test e' same = absurd cc
    go None e false e' same = absurd cc
    go None e true e' same =
        let it : contents_in (committed memory) ≡ p = cc in
        let begins = decoded (committed memory) (AreBytes-committed memory small) e in (
          subst (λ (q : Contents). Stands q memory) it (record { rest = drop (packet_bits_in (committed memory) / 8) (committed memory); begins = begins }),
          ap (λ (q : Contents). q.head.uuid) (sym it) ∙ (bytes_eq-Decides (contents_in (committed memory)).head.uuid uuid).0 e',
        )

pub stands_found : (uuid memory : List ℕ) (p : Contents) → Stands p memory → p.head.uuid ≡ uuid → packet_at uuid memory ≡ Some p
stands_found uuid memory p stands same =
    let it = begun p stands.rest (committed memory) stands.begins in
    same_trace uuid (committed memory) p it.0 it.1 ((bytes_eq-Decides p.head.uuid uuid).1 same)
