-- A packet's text, written part by part, and its length.
use Rattle.std.proofs.Common.{◌≡◌, ℕ, ◌*◌, List, ◌++◌, length, append_assoc, length-append, arith, ap, ◌∙◌}
use Rattle.std.specs.Int.{w32, w64, to_le_bytes}
use Rattle.tr_record.specs.Records.{records_text}
use Rattle.tr_record.proofs.RecordLemmas.{length-records_text}
use Rattle.tr_packet.specs.declared.head.Head.{Head}
use Rattle.tr_packet.specs.Packets.{Contents, magic, header_text, context_text, packet_text, packet_size}

-- what comes after the trace's identifier
abbrev numbers_text : Head → ℕ → List ℕ
numbers_text h bits = to_le_bytes w32 0 ++ (to_le_bytes w64 h.stream ++ context_text h bits)

in_one : (out m u zero stream rest : List ℕ)
    → ((out ++ m) ++ u) ++ (zero ++ (stream ++ rest)) ≡ (out ++ (m ++ (u ++ (zero ++ stream)))) ++ rest
in_one out m u zero stream rest = simp append_assoc

pub head_written : (h : Head) (bits : ℕ) (out a b c uuid numbers : List ℕ) → uuid ≡ h.uuid → numbers ≡ numbers_text h bits
    → a ≡ out ++ magic → b ≡ a ++ uuid → c ≡ b ++ numbers → c ≡ (out ++ header_text h) ++ context_text h bits
head_written h bits out a b c uuid numbers uuid-is numbers-are first second last =
    last
    ∙ ap (λ (t : List ℕ). b ++ t) numbers-are
    ∙ ap (λ (t : List ℕ). t ++ numbers_text h bits) (second ∙ ap (λ (t : List ℕ). a ++ t) uuid-is
    ∙ ap (λ (t : List ℕ). t ++ h.uuid) first)
    ∙ in_one out magic h.uuid (to_le_bytes w32 0) (to_le_bytes w64 h.stream) (context_text h bits)

in_two : (m u zero stream rest tail : List ℕ)
    → m ++ (u ++ ((zero ++ (stream ++ rest)) ++ tail)) ≡ ((m ++ (u ++ (zero ++ stream))) ++ rest) ++ tail
in_two m u zero stream rest tail = simp append_assoc

-- the same over the bytes that stand there
pub head_over : (h : Head) (bits : ℕ) (out tail uuid numbers : List ℕ) → uuid ≡ h.uuid → numbers ≡ numbers_text h bits
    → out ≡ magic ++ (uuid ++ (numbers ++ tail)) → out ≡ (header_text h ++ context_text h bits) ++ tail
head_over h bits out tail uuid numbers uuid-is numbers-are written =
    written
    ∙ ap (λ (t : List ℕ). magic ++ (t ++ (numbers ++ tail))) uuid-is
    ∙ ap (λ (t : List ℕ). magic ++ (h.uuid ++ (t ++ tail))) numbers-are
    ∙ in_two magic h.uuid (to_le_bytes w32 0) (to_le_bytes w64 h.stream) (context_text h bits) tail

-- the size that a packet states is that of its text
pub length-packet_text : (p : Contents) → length p.head.uuid ≡ 16 → length (packet_text p) ≡ packet_size p
length-packet_text p sixteen =
    let bits = 8 * packet_size p in
    omega (
      arith,
      length-append (header_text p.head) (context_text p.head bits ++ records_text p.records),
      length-append (context_text p.head bits) (records_text p.records),
      length-append p.head.uuid (to_le_bytes w32 0 ++ to_le_bytes w64 p.head.stream),
      length-records_text p.records,
    )
