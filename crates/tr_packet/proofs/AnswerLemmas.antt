-- What the decoder answers, by what it read.
use Rattle.std.proofs.Common.{◌≡◌, ℕ, ◌/◌, List, drop, Some, None, sym, ap, subst, ◌∙◌, ◌↔◌}
use Rattle.std.specs.Prelude.{Result, Ok, Err, IfOk, IfErr}
use Rattle.tr_record.specs.Whole.{AreBytes}
use Rattle.tr_packet.specs.Packets.{Contents, packet_size}
use Rattle.tr_packet.specs.Decoding.{Begins, packet_bits_in, contents_in, first_fault}
use Rattle.tr_packet.specs.declared.faults.PacketFault.{PacketFault}
use Rattle.tr_packet.proofs.DecodingLemmas.{packet_decoded, packet_read}

abbrev Answer : Type 0
Answer = Result (Contents × ℕ) PacketFault

abbrev found : Contents → ℕ → Answer
found p n = Ok (p, n)

abbrev refused : PacketFault → Answer
refused f = Err f

abbrev IsFound : List ℕ → Contents → ℕ → Type 0
IsFound bytes p n = Begins p (drop n bytes) bytes × (n ≡ packet_size p)

pub answer_found : (bytes : List ℕ) (answer : Answer) → AreBytes bytes → IfOk answer (λ _. first_fault bytes ≡ None)
    → IfOk answer (λ x. x.0 ≡ contents_in bytes) → IfOk answer (λ x. x.1 ≡ packet_bits_in bytes / 8)
    → IfOk answer (λ x. Begins x.0 (drop x.1 bytes) bytes × (x.1 ≡ packet_size x.0))
answer_found bytes (Err f) small sound packet size = tt
answer_found bytes (Ok x) small sound packet size =
    let d = packet_decoded bytes small sound in
    subst (λ (p : Contents). IsFound bytes p x.1) (sym packet)
    (subst (IsFound bytes (contents_in bytes)) (sym size) (record { packet = d.packet; parts = d.parts }, d.size))

none_is_some : (f : PacketFault) → None ≡ Some f → ⊥
none_is_some f e = cc

pub answer_only : (bytes : List ℕ) (answer : Answer) → IfOk answer (λ x. x.0 ≡ contents_in bytes)
    → IfOk answer (λ x. x.1 ≡ packet_bits_in bytes / 8) → IfErr answer (λ f. first_fault bytes ≡ Some f)
    → (p : Contents) (rest : List ℕ) → Begins p rest bytes → answer ≡ Ok (p, packet_size p)
answer_only bytes (Ok x) packet size fault p rest begins =
    let r = packet_read p rest bytes begins in
    ap (λ (q : Contents). found q x.1) (packet ∙ r.contents) ∙ ap (found p) (size ∙ r.size)
answer_only bytes (Err f) packet size fault p rest begins =
    let r = packet_read p rest bytes begins in
    absurd (none_is_some f (sym r.sound ∙ fault))

found_is_refused : (x : Contents × ℕ) (f : PacketFault) → found x.0 x.1 ≡ refused f → ⊥
found_is_refused x f e = cc

same_refusal : (f g : PacketFault) → refused f ≡ refused g → f ≡ g
same_refusal f g e = cc

same_some : (f g : PacketFault) → Some f ≡ Some g → f ≡ g
same_some f g e = cc

pub answer_fault : (bytes : List ℕ) (answer : Answer) → IfOk answer (λ _. first_fault bytes ≡ None) → IfErr answer (λ f. first_fault bytes ≡ Some f)
    → (f : PacketFault) → (answer ≡ Err f) ↔ (first_fault bytes ≡ Some f)
answer_fault bytes (Ok x) sound fault f = (λ e. absurd (found_is_refused x f e), λ e. absurd (none_is_some f (sym sound ∙ e)))
answer_fault bytes (Err g) sound fault f = (λ e. fault ∙ ap Some (same_refusal g f e), λ e. ap refused (same_some g f (sym fault ∙ e)))
