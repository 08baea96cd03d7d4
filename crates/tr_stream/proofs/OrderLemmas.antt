-- The packets of a history's chunks, and their runs, rise.
use Rattle.std.proofs.Common.{◌≡◌, ◌≢◌, ◌+◌, ◌≤◌, ℕ, Bool, true, false, cond, leb, List, [], ◌∷◌, ◌++◌, length, length-append, map, Some, None, sym, ◌∙◌, subst, arith}
use Rattle.std.proofs.lemmas.Grind.{common_steps}
use Rattle.tr_book.specs.Parts.{IsOrdered, PartState, part_at}
use Rattle.tr_book.specs.Runs.{PacketsRise, RunsRise}
use Rattle.tr_book.specs.declared.runs.Run.{Run}
use Rattle.tr_record.specs.Records.{Entry}
use Rattle.tr_ring.specs.ClosedBuffer.{ClosedBuffer}
use Rattle.tr_ring.specs.Ring.{seq_after}
use Rattle.tr_stream.proofs.Consistency.{buffers-rise, rising-append, rising-last, rising-where}
use Rattle.tr_stream.proofs.GapLemmas.{chunk-gaps}
use Rattle.tr_stream.proofs.GoneLemmas.{packet_runs-are}
use Rattle.tr_stream.proofs.PartLemmas.{part-is}
use Rattle.tr_stream.specs.Chunks.{buffer_of, buffers_where, chunk_of, closed_if_any, closed_part, packet_of, part_if, ring_buffers, waiting_of}
use Rattle.tr_stream.specs.Consistent.{Rising}
use Rattle.tr_stream.specs.History.{Status, Closed, History, discarded_of, is_kept_in, is_released, is_waiting, offered_of, offers_before}
use Rattle.tr_stream.specs.Gaps.{BuffersRise}
use Rattle.tr_stream.specs.Kept.{IsKept}
use Rattle.tr_stream.specs.State.{StreamState}
use Rattle.tr_stream.specs.WellFormed.{AllUsed, IsWellFormed, next_serial}
use Rattle.tr_stream.specs.declared.config.StreamConfig.{StreamConfig}
use Rattle.tr_terms.specs.declared.limits.TheConstants.{MOST_SUB_BUFFERS}

-- each of these sub-buffers has a record
abbrev pub HaveRecords : List ClosedBuffer → Type 0
HaveRecords [] = Unit {0}
HaveRecords (b ∷ bs) = (b.records ≢ []) × HaveRecords bs

pub used-where : (wanted : Status → Bool) (discarded : ℕ) (cs : List Closed) → AllUsed cs → HaveRecords (buffers_where wanted discarded cs)
used-where wanted discarded [] used = tt
used-where wanted discarded (c ∷ cs) used = one (wanted c.status) (buffers_where wanted (discarded + length c.block.discarded) cs)
    (used-where wanted (discarded + length c.block.discarded) cs used.1)
  where
    one : (w : Bool) (rest : List ClosedBuffer) → HaveRecords rest → HaveRecords (cond w (buffer_of discarded c ∷ rest) rest)
    one true rest have = (used.0, have)
    one false rest have = have

packets-rise : (c : StreamConfig) (seq serial : ℕ) (bs : List ClosedBuffer) (next_seq next : ℕ) → Rising seq serial bs next_seq next
    → HaveRecords bs → PacketsRise serial (map (packet_of c) bs)
packets-rise c seq serial [] next_seq next rise used = tt
packets-rise c seq serial (b ∷ bs) next_seq next rise used =
    (used.0, rise.1, packets-rise c (b.seq + 1) (next_serial serial b.records) bs next_seq next rise.2 used.1)

chunk-rises : (k : ℕ) (h : History) → IsWellFormed h → Rising 0 0 (chunk_of k h) h.filling.number (offered_of h)
chunk-rises k h is =
    rising-where (is_kept_in k) 0 0 0 0 0 h.closed h.filling.number (offered_of h) is.numbers is.covers (omega arith)
    (omega arith) (omega (arith, is.filling)) (omega arith)

closed-ordered : (c : StreamConfig) (k : ℕ) (h : History) → IsWellFormed h → IsOrdered (closed_part c k h)
closed-ordered c k h is = by_release (is_released k h)
  where
    by_release : (released : Bool) → IsOrdered (part_if released k (map (packet_of c) (chunk_of k h)))
    by_release true =
        subst (λ (rs : List Run). RunsRise 0 rs) (sym (packet_runs-are c (chunk_of k h)))
        (buffers-rise 0 0 (chunk_of k h) h.filling.number (offered_of h) (chunk-rises k h is))
    by_release false = (
      packets-rise c 0 0 (chunk_of k h) h.filling.number (offered_of h) (chunk-rises k h is)
          (used-where (is_kept_in k) 0 h.closed is.used),
      chunk-gaps c k h is,
    )

-- a part can be searched
pub part-ordered : (s : StreamState) (k : ℕ) (part : PartState) → IsKept s → Some part ≡ part_at k s.parts → IsOrdered part
part-ordered s k part is at = by_place (leb k h.cuts) (at ∙ part-is s h k is.history.1)
  where
    h : History
    h = is.history.0

    by_place : (within : Bool) → Some part ≡ cond within (Some (closed_part s.config k h)) None → IsOrdered part
    by_place true e =
        let same : closed_part s.config k h ≡ part = cc in
        subst IsOrdered same (closed-ordered s.config k h is.history.1.model)
    by_place false e = absurd cc

-- ---- the ring

buffers-ordered : (seq serial : ℕ) (bs : List ClosedBuffer) (next_seq next : ℕ) → Rising seq serial bs next_seq next
    → HaveRecords bs → BuffersRise serial bs
buffers-ordered seq serial [] next_seq next rise used = tt
buffers-ordered seq serial (b ∷ bs) next_seq next rise used =
    (used.0, rise.1, buffers-ordered (b.seq + 1) (next_serial serial b.records) bs next_seq next rise.2 used.1)

used-append : (bs : List ClosedBuffer) (seq discarded : ℕ) (es : List Entry) → HaveRecords bs
    → HaveRecords (bs ++ closed_if_any seq 0 discarded es)
used-append [] seq discarded [] used = tt
used-append [] seq discarded (e ∷ es) used = ((λ none. absurd cc), tt)
used-append (b ∷ bs) seq discarded es used = (used.0, used-append bs seq discarded es used.1)

history-rises : (h : History) → IsWellFormed h
    → BuffersRise 0 (waiting_of h ++ closed_if_any h.filling.number 0 (discarded_of h) h.filling.records)
history-rises h is =
    buffers-ordered 0 0 (waiting_of h ++ closed_if_any h.filling.number 0 (discarded_of h) h.filling.records)
    (seq_after h.filling.number h.filling.records) (offered_of h)
    (rising-append 0 0 (waiting_of h) (closed_if_any h.filling.number 0 (discarded_of h) h.filling.records) (length h.closed)
    (offers_before h.closed) (seq_after h.filling.number h.filling.records) (offered_of h)
    (rising-where is_waiting 0 0 0 0 0 h.closed (length h.closed) (offers_before h.closed) is.numbers is.covers (omega arith)
    (omega arith) (omega arith) (omega arith))
    (λ n m a b. rising-last n m h.filling.number 0 (discarded_of h) (offers_before h.closed) (offered_of h) h.filling.records
    (omega (arith, is.filling)) b is.covers_filling.rise is.covers_filling.within))
    (used-append (waiting_of h) h.filling.number (discarded_of h) h.filling.records (used-where is_waiting 0 h.closed is.used))

-- the ring can be searched
pub ring-ordered : (s : StreamState) → IsKept s → BuffersRise 0 (ring_buffers 0 s.ring)
ring-ordered s is =
    let stands = is.history.1 in
    rw (stands.waiting, stands.filling, stands.number, stands.discarded) (history-rises is.history.0 stands.model)

pub ring-few : (s : StreamState) → IsKept s → length (ring_buffers 0 s.ring) ≤ MOST_SUB_BUFFERS
ring-few s is =
    omega (
      arith,
      length-append s.ring.waiting (closed_if_any s.ring.seq 0 s.ring.discarded s.ring.current),
      one s.ring.current,
      is.sound.room,
      is.sound.config.count_high,
    )
  where
    one : (es : List Entry) → length (closed_if_any s.ring.seq 0 s.ring.discarded es) ≤ 1
    one [] = omega arith
    one (e ∷ es) = grind (arith, common_steps)
