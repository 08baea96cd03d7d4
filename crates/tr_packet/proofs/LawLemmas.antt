-- A packet's text says where it ends.
use Rattle.std.proofs.Common.{◌≡◌, ℕ, List, [], ◌++◌, drop, sym, ap, ◌∙◌, append-nil}
use Rattle.std.proofs.lemmas.List.{drop_at}
use Rattle.tr_packet.specs.Packets.{Contents, packet_text, packet_size, IsPacket}
use Rattle.tr_packet.specs.Decoding.{Begins}
use Rattle.tr_packet.proofs.TextLemmas.{length-packet_text}
use Rattle.tr_packet.proofs.DecodingLemmas.{packet_read}

-- what follows a packet
behind_is : (p : Contents) (rest bytes : List ℕ) → Begins p rest bytes → drop (packet_size p) bytes ≡ rest
behind_is p rest bytes b = ap (drop (packet_size p)) b.parts ∙ drop_at (packet_text p) rest (packet_size p) (length-packet_text p b.packet.uuid)

pub one_in_front : (p q : Contents) (after behind bytes : List ℕ) → Begins p after bytes → Begins q behind bytes → (p ≡ q) × (after ≡ behind)
one_in_front p q after behind bytes first second =
    let same = sym (packet_read p after bytes first).contents ∙ (packet_read q behind bytes second).contents in
    (same, sym (behind_is p after bytes first) ∙ ap (λ (x : Contents). drop (packet_size x) bytes) same ∙ behind_is q behind bytes second)

pub none_begins_another : (p q : Contents) (rest : List ℕ) → IsPacket p → IsPacket q → packet_text q ≡ packet_text p ++ rest → (p ≡ q) × (rest ≡ [])
none_begins_another p q rest first second e =
    one_in_front p q rest [] (packet_text q) (record { packet = first; parts = e })
    (record { packet = second; parts = sym (append-nil (packet_text q)) })
