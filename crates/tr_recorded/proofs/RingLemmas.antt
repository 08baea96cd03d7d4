-- What is in the memory of a stream's ring is what the stream's audit passes.
use Rattle.std.proofs.Common.{◌≡◌, ◌≢◌, ◌+◌, ℕ, Bool, true, false, cond, refl, sym, subst, arith, inl, inr, List, [], ◌∷◌, ◌++◌, map, None}
use Rattle.std.specs.List.{AllByRecursion}
use Rattle.std.specs.Prelude.{IsTrue}
use Rattle.tr_chunk.specs.Audit.{AreOfStream, numbers_rise_after}
use Rattle.tr_packet.specs.Order.{serials_rise_after}
use Rattle.tr_packet.specs.Packets.{IsPacket, MakePacket}
use Rattle.tr_record.specs.Records.{Entry}
use Rattle.tr_recorded.proofs.LossLemmas.{Stay, by_mode, held_stay, stay_lower}
use Rattle.tr_recorded.specs.Found.{ArePassed}
use Rattle.tr_ring.specs.ClosedBuffer.{ClosedBuffer}
use Rattle.tr_ring.specs.Heads.{begin_of, last_after}
use Rattle.tr_ring.specs.Ring.{seq_after}
use Rattle.tr_session.proofs.AuditLemmas.{IsAmong, all-own, among-all, records-packets, rise-numbers, rise-records, rising-among}
use Rattle.tr_session.proofs.GapLemmas.{numbers-packets}
use Rattle.tr_stream.proofs.ImageLemmas.{makes-tight}
use Rattle.tr_stream.specs.Chunks.{closed_if_any, packet_of, ring_buffers}
use Rattle.tr_stream.specs.Consistent.{IsConsistent, Piece, Rising, buffers_of, held_among}
use Rattle.tr_stream.specs.Images.{packets_standing}
use Rattle.tr_stream.specs.Sound.{ArePackets, IsSound}
use Rattle.tr_stream.specs.State.{StreamState}
use Rattle.tr_stream.specs.declared.config.StreamConfig.{StreamConfig}
use Rattle.tr_stream.specs.WellFormed.{next_serial}
use Rattle.tr_survey.specs.Whole.{LossesStay}

-- ---- among all that are known

held-among : (pieces : List Piece) → IsAmong (held_among pieces) (buffers_of pieces)
held-among [] = tt
held-among (p ∷ pieces) = by p.cleared (held_among pieces) (held-among pieces)
  where
    later : (bs : List ClosedBuffer) → IsAmong bs (buffers_of pieces) → IsAmong bs (p.buffer ∷ buffers_of pieces)
    later [] among = tt
    later (b ∷ bs) among = inr among

    by : (cleared : Bool) (bs : List ClosedBuffer) → IsAmong bs (buffers_of pieces)
        → IsAmong (cond cleared bs (p.buffer ∷ bs)) (p.buffer ∷ buffers_of pieces)
    by true bs among = later bs among
    by false bs among = inl (refl, among)

back-among : (xs ys : List ClosedBuffer) → IsAmong ys (xs ++ ys)
back-among [] ys = among-all ys
back-among (x ∷ xs) [] = tt
back-among (x ∷ xs) (y ∷ ys) = inr (back-among xs (y ∷ ys))

stay-back : (from : ℕ) (xs ys : List ClosedBuffer) → Stay from (xs ++ ys) → Stay 0 ys
stay-back from [] ys stay = stay_lower 0 from ys (omega arith) stay
stay-back from (x ∷ xs) ys stay = stay-back x.discarded xs ys stay.1

-- ---- whenever the current one would be closed

rise-then : (seq serial n end later discarded : ℕ) (ws : List ClosedBuffer) (es : List Entry) (next_seq next : ℕ)
    → Rising seq serial (ws ++ closed_if_any n end discarded es) next_seq next → Rising seq serial (ws ++ closed_if_any n later discarded es) next_seq next
rise-then seq serial n end later discarded [] [] next_seq next rise = rise
rise-then seq serial n end later discarded [] (e ∷ es) next_seq next rise = rise
rise-then seq serial n end later discarded (w ∷ ws) es next_seq next rise =
    (rise.0, rise.1, rise-then (w.seq + 1) (next_serial serial w.records) n end later discarded ws es next_seq next rise.2)

stay-then : (from n end later discarded : ℕ) (ws : List ClosedBuffer) (es : List Entry) → Stay from (ws ++ closed_if_any n end discarded es)
    → Stay from (ws ++ closed_if_any n later discarded es)
stay-then from n end later discarded [] [] stay = stay
stay-then from n end later discarded [] (e ∷ es) stay = stay
stay-then from n end later discarded (w ∷ ws) es stay = (stay.0, stay-then w.discarded n end later discarded ws es stay.1)

-- ---- packets

losses : (c : StreamConfig) (from : ℕ) (bs : List ClosedBuffer) → Stay from bs → LossesStay from (map (packet_of c) bs)
losses c from [] stay = tt
losses c from (b ∷ bs) stay = (stay.0, losses c b.discarded bs stay.1)

can-be : (s : StreamState) (es : List Entry) → IsSound s → es ≡ s.ring.current
    → AllByRecursion IsPacket (map (packet_of s.config) (closed_if_any s.ring.seq (last_after 0 es) s.ring.discarded es))
can-be s [] sound is = tt
can-be s (e ∷ es) sound is =
    let some : (e ∷ es) ≢ [] = λ none. absurd cc in
    let makes = makes-tight s.counters.last (e ∷ es) some
    (subst (λ (l : List Entry). l ≢ [] → MakePacket (begin_of l) s.counters.last l) (sym is) sound.filling.makes some) in (
      record {
        uuid = sound.config.uuid;
        stream = sound.config.number;
        seq = omega (arith, sound.numbers, sound.few);
        lost = omega (arith, sound.total, sound.few);
        records = makes;
      },
      tt,
    )

all-can-be : (c : StreamConfig) (ws bs : List ClosedBuffer) → ArePackets c ws → AllByRecursion IsPacket (map (packet_of c) bs)
    → AllByRecursion IsPacket (map (packet_of c) (ws ++ bs))
all-can-be c [] bs are more = more
all-can-be c (w ∷ ws) bs are more = (are.0, all-can-be c ws bs are.1 more)

passed-by : (c : StreamConfig) (bs : List ClosedBuffer) → AreOfStream c.uuid c.number (map (packet_of c) bs) → LossesStay 0 (map (packet_of c) bs)
    → ArePassed c.uuid (map (packet_of c) bs)
passed-by c [] sound stay = tt
passed-by c (b ∷ bs) sound stay = (sound, stay)

pub ring-passed : (s : StreamState) → IsSound s → IsConsistent s → ArePassed s.config.uuid (packets_standing s)
ring-passed s sound c =
    let bs = ring_buffers (last_after 0 s.ring.current) s.ring in
    let held = ring_buffers s.counters.last s.ring in
    let next_seq = seq_after s.ring.seq s.ring.current in
    let next = s.counters.offered in
    let rising : Rising 0 0 (c.are.kept ++ held) next_seq next =
    subst (λ (l : List ClosedBuffer). Rising 0 0 l next_seq next) c.are.held
    (rising-among (held_among c.pieces) (buffers_of c.pieces) 0 0 next_seq next (held-among c.pieces) c.rising) in
    let rise : Rising 0 0 bs next_seq next =
    rise-then 0 0 s.ring.seq s.counters.last (last_after 0 s.ring.current) s.ring.discarded s.ring.waiting s.ring.current next_seq next
    (rising-among held (c.are.kept ++ held) 0 0 next_seq next (back-among c.are.kept held) rising) in
    let stay : Stay 0 bs =
    stay-then 0 s.ring.seq s.counters.last (last_after 0 s.ring.current) s.ring.discarded s.ring.waiting s.ring.current
    (stay-back 0 c.are.kept held (subst (Stay 0) c.are.held (held_stay 0 c.pieces (by_mode s s.config.mode refl c)))) in
    passed-by s.config bs
    (record {
      packets = all-can-be s.config s.ring.waiting _ sound.packets (can-be s s.ring.current sound refl);
      belong = all-own s.config bs;
      numbers = subst (λ (ns : List ℕ). IsTrue (numbers_rise_after None ns)) (sym (numbers-packets s.config bs))
          (rise-numbers None 0 0 bs next_seq next (omega arith) rise);
      serials = subst (λ (es : List Entry). IsTrue (serials_rise_after None es)) (sym (records-packets s.config bs))
          (rise-records None 0 0 bs next_seq next (omega arith) rise);
    })
    (losses s.config 0 bs stay)
