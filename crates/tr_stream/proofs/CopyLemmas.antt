-- Copies of the sub-buffers that wait, one after another.
use Rattle.std.proofs.Common.{◌≡◌, ℕ, zero, suc, List, [], ◌∷◌, ◌++◌, Some, ap, map, slice_get, subst, sym, take, ◌∙◌}
use Rattle.tr_packet.specs.Packets.{Contents, IsPacket, contents}
use Rattle.tr_packet.specs.declared.head.Head.{Head}
use Rattle.tr_ring.specs.ClosedBuffer.{ClosedBuffer}
use Rattle.tr_stream.specs.Chunks.{packet_of}
use Rattle.tr_stream.specs.Sound.{ArePackets}
use Rattle.tr_stream.specs.declared.config.StreamConfig.{StreamConfig}

-- each of them makes a packet
pub packet-at : (c : StreamConfig) (waiting : List ClosedBuffer) (i : ℕ) (b : ClosedBuffer) → slice_get waiting i ≡ Some b
    → ArePackets c waiting → IsPacket (packet_of c b)
packet-at c [] i b at are = absurd cc
packet-at c (x ∷ xs) zero b at are = let same : x ≡ b = cc in subst (λ (y : ClosedBuffer). IsPacket (packet_of c y)) same are.0
packet-at c (x ∷ xs) (suc i) b at are = packet-at c xs i b at are.1

-- a packet by its head and its records
pub packet-by : (c : StreamConfig) (b : ClosedBuffer) (head : Head) → head ≡ (packet_of c b).head
    → contents head b.records ≡ packet_of c b
packet-by c b head is = ap (λ (h : Head). contents h b.records) is

-- one more of them was copied
pub packets-next : (c : StreamConfig) (waiting : List ClosedBuffer) (i next : ℕ) (b : ClosedBuffer) (p : Contents)
    → slice_get waiting i ≡ Some b → p ≡ packet_of c b → next ≡ suc i
    → map (packet_of c) (take i waiting) ++ p ∷ [] ≡ map (packet_of c) (take next waiting)
packets-next c waiting i next b p at is follows =
    by_one waiting i at ∙ ap (λ (n : ℕ). map (packet_of c) (take n waiting)) (sym follows)
  where
    by_one : (xs : List ClosedBuffer) (k : ℕ) → slice_get xs k ≡ Some b
        → map (packet_of c) (take k xs) ++ p ∷ [] ≡ map (packet_of c) (take (suc k) xs)
    by_one [] k at = absurd cc
    by_one (x ∷ xs) zero at = let same : x ≡ b = cc in ap (λ (q : Contents). q ∷ []) (is ∙ ap (packet_of c) (sym same))
    by_one (x ∷ xs) (suc k) at = ap (λ (ps : List Contents). packet_of c x ∷ ps) (by_one xs k at)
