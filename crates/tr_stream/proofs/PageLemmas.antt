-- Pages that a ring gives away, and those that it gets.
use Rattle.std.proofs.Common.{◌≡◌, ◌≢◌, ◌+◌, ◌^◌, ◌<◌, ◌≤◌, ℕ, List, length, [], ◌∷◌, ◌++◌, Some, slice_get, drop, ap, refl, subst, sym, ◌∙◌, arith}
use Rattle.std.specs.List.{AllByRecursion}
use Rattle.std.specs.Option.{option_map}
use Rattle.std.proofs.lemmas.Grind.{common_steps}
use Rattle.tr_packet.specs.Packets.{Contents, IsPacket, contents}
use Rattle.tr_record.specs.Records.{Entry}
use Rattle.tr_packet.specs.declared.head.Head.{Head}
use Rattle.tr_ring.specs.ClosedBuffer.{ClosedBuffer, closed_buffer}
use Rattle.tr_ring.specs.Ring.{RingState, clear_ring, seq_after, take_current}
use Rattle.tr_stream.specs.Chunks.{closed_if_any, packet_of, ring_buffers}
use Rattle.tr_stream.specs.Sound.{ArePackets}
use Rattle.tr_stream.specs.declared.config.StreamConfig.{StreamConfig}
use Rattle.tr_subbuf.specs.SubBuffer.{SubBuffer}
use Rattle.tr_ring.specs.Heads.{page_from}
use Rattle.tr_ring.specs.declared.origin.Origin.{Origin}

pub all-but_last : {X : Type 0} (P : X → Type 0) (xs : List X) (x : X) → AllByRecursion P (xs ++ x ∷ []) → AllByRecursion P xs
all-but_last P [] x are = tt
all-but_last P (y ∷ xs) x are = (are.0, all-but_last P xs x are.1)

pub last-of_all : {X : Type 0} (P : X → Type 0) (xs : List X) (x : X) → AllByRecursion P (xs ++ x ∷ []) → P x
last-of_all P [] x are = are.0
last-of_all P (y ∷ xs) x are = last-of_all P xs x are.1

-- the page that a ring gives away has the records of its oldest sub-buffer
pub given-page : (o : Origin) (size : ℕ) (waiting : List ClosedBuffer) (b : ClosedBuffer) (page : SubBuffer) → slice_get waiting 0 ≡ Some b
    → Some page ≡ option_map (page_from o size) (slice_get waiting 0) → page ≡ page_from o size b
given-page o size [] b page first is = cc
given-page o size (x ∷ xs) b page first is = let same : x ≡ b = cc in let there : page ≡ page_from o size x = cc in
    there ∙ ap (page_from o size) same

-- so it is the packet of that sub-buffer
pub given-packet : (c : StreamConfig) (b : ClosedBuffer) (head : Head) (o : Origin) (size : ℕ) (page : SubBuffer) → head ≡ (packet_of c b).head
    → page ≡ page_from o size b → contents head page.records ≡ packet_of c b
given-packet c b head o size page head-is page-is =
    ap (λ (h : Head). contents h page.records) head-is ∙ ap (λ (p : SubBuffer). contents (packet_of c b).head p.records) page-is

pub first-packet : (c : StreamConfig) (waiting : List ClosedBuffer) (b : ClosedBuffer) → slice_get waiting 0 ≡ Some b
    → ArePackets c waiting → IsPacket (packet_of c b)
first-packet c [] b first are = absurd (grind (arith, common_steps, first))
first-packet c (x ∷ xs) b first are = let same : x ≡ b = cc in subst (λ (y : ClosedBuffer). IsPacket (packet_of c y)) same are.0

pub rest-packets : (c : StreamConfig) (waiting : List ClosedBuffer) → ArePackets c waiting → ArePackets c (drop 1 waiting)
rest-packets c [] are = tt
rest-packets c (x ∷ xs) are = are.1

-- a counter has room for the records of the packet that goes
pub few-first : (c : StreamConfig) (waiting : List ClosedBuffer) (p : Contents) (n : ℕ) → 1 ≤ length waiting
    → ((b : ClosedBuffer) → slice_get waiting 0 ≡ Some b → p ≡ packet_of c b)
    → ((b : ClosedBuffer) → slice_get waiting 0 ≡ Some b → n + length b.records < 2 ^ 64) → n + length p.records < 2 ^ 64
few-first c [] p n some is few = absurd (omega (arith, some))
few-first c (b ∷ bs) p n some is few =
    subst (λ (q : Contents). n + length q.records < 2 ^ 64) (sym (is b refl)) (few b refl)

-- a ring is empty once what waited was taken, and then the current sub-buffer
pub taken-clear : (ring : RingState) → length ring.current ≢ 0 → take_current (record ring { waiting = [] }) ≡ clear_ring ring
taken-clear ring some =
    let last : ring.seq + 1 ≡ seq_after ring.seq ring.current = by_records ring.current some in
    ap (λ (n : ℕ). record ring { waiting = []; current = []; seq = n }) last
  where
    by_records : (es : List Entry) → length es ≢ 0 → ring.seq + 1 ≡ seq_after ring.seq es
    by_records [] none = absurd (none refl)
    by_records (e ∷ es) more = refl

-- a current sub-buffer with a record is one of the ring's
pub some-buffers : (ring : RingState) (end : ℕ) → length ring.current ≢ 0 → ring_buffers end ring ≢ []
some-buffers ring end some = λ none. by_records ring.current some none
  where
    behind : (bs : List ClosedBuffer) (b : ClosedBuffer) → bs ++ b ∷ [] ≡ [] → ⊥
    behind [] b e = cc
    behind (x ∷ xs) b e = cc

    by_records : (es : List Entry) → length es ≢ 0 → ring.waiting ++ closed_if_any ring.seq end ring.discarded es ≡ [] → ⊥
    by_records [] none e = none refl
    by_records (x ∷ es) more e = behind ring.waiting (closed_buffer ring.seq end ring.discarded (x ∷ es)) e
