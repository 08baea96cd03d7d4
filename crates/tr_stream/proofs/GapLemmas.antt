-- Where a history's sub-buffers and packets show that serials are missing.
use Rattle.std.proofs.Common.{◌≡◌, ℕ, ◌+◌, ◌≤◌, Bool, true, false, cond, leb, List, [], ◌∷◌, ◌++◌, length, map, Some, None, refl, sym, ◌∙◌, ap, subst, arith}
use Rattle.std.proofs.lemmas.List.{append-nil}
use Rattle.std.specs.Prelude.{slice_get}
use Rattle.tr_book.specs.Parts.{PartState}
use Rattle.tr_book.specs.Runs.{AreInRow, GapsShow, SerialsFollow}
use Rattle.tr_record.specs.Records.{Entry}
use Rattle.tr_ring.specs.ClosedBuffer.{ClosedBuffer}
use Rattle.tr_stream.proofs.ChunkLemmas.{discarded_in-cons}
use Rattle.tr_stream.proofs.Consistency.{serials_follow}
use Rattle.tr_stream.proofs.PartLemmas.{below-is}
use Rattle.tr_stream.specs.Chunks.{buffer_of, buffers_where, chunk_of, closed_if_any, closed_part, packet_of, part_if, ring_buffers}
use Rattle.tr_stream.specs.Gaps.{DiscardsShow}
use Rattle.tr_stream.specs.History.{Status, Block, Closed, History, discarded_in, is_kept_in, is_released, is_waiting, offers_in, offers_before}
use Rattle.tr_stream.specs.Kept.{IsKept}
use Rattle.tr_stream.specs.StandsFor.{StandsFor}
use Rattle.tr_stream.specs.State.{StreamState}
use Rattle.tr_stream.specs.WellFormed.{Covers, CoversFrom, IsWellFormed}
use Rattle.tr_stream.specs.declared.config.StreamConfig.{StreamConfig}

-- a block that discarded nothing has its serials in a row
row-of : (low : ℕ) (b : Block) → Covers low b → length b.discarded ≡ 0 → AreInRow b.records
row-of low b covers none = of_records b.records refl
  where
    of_records : (es : List Entry) → b.records ≡ es → AreInRow es
    of_records [] e = tt
    of_records (r ∷ rs) e =
        let same : Covers low (record b { records = r ∷ rs }) =
        subst (λ (q : List Entry). Covers low (record b { records = q })) e covers in
        let first : r.serial ≡ low = same.starts in
        subst (λ (n : ℕ). SerialsFollow (n + 1) rs) (sym first)
        (serials_follow low (r ∷ rs) same.rise (omega (arith, same.within, none))).1

-- the blocks of any status, and some sub-buffers after them
discards-where : (wanted : Status → Bool) (before low discarded : ℕ) (cs : List Closed) (rest : List ClosedBuffer)
    → CoversFrom low cs → before ≤ discarded
    → ((n : ℕ) → n ≤ discarded + discarded_in cs → DiscardsShow n rest)
    → DiscardsShow before (buffers_where wanted discarded cs ++ rest)
discards-where wanted before low discarded [] rest covers le later = later before (omega (arith, le))
discards-where wanted before low discarded (c ∷ cs) rest covers le later =
    let more = discarded_in-cons c cs in
    let after = λ (n : ℕ) (few : n ≤ discarded + length c.block.discarded). discards-where wanted n (low + offers_in c.block)
    (discarded + length c.block.discarded) cs rest covers.1 few (λ m e. later m (omega (arith, e, more))) in
    one (wanted c.status)
    (λ e. row-of low c.block covers.0 (omega (arith, e, le)))
    (after (discarded + length c.block.discarded) (omega arith))
    (after before (omega (arith, le)))
  where
    one : (w : Bool) → (discarded + length c.block.discarded ≡ before → AreInRow c.block.records)
        → DiscardsShow (discarded + length c.block.discarded) (buffers_where wanted (discarded + length c.block.discarded) cs ++ rest)
        → DiscardsShow before (buffers_where wanted (discarded + length c.block.discarded) cs ++ rest)
        → DiscardsShow before (cond w (buffer_of discarded c ∷ buffers_where wanted (discarded + length c.block.discarded) cs)
        (buffers_where wanted (discarded + length c.block.discarded) cs) ++ rest)
    one true row with_it without = (row, with_it)
    one false row with_it without = without

-- what a ring shows, its packets show
gaps-of : (c : StreamConfig) (lost : ℕ) (bs : List ClosedBuffer) → DiscardsShow lost bs → GapsShow lost (map (packet_of c) bs)
gaps-of c lost [] show = tt
gaps-of c lost (b ∷ bs) show = (show.0, gaps-of c b.discarded bs show.1)

pub chunk-gaps : (c : StreamConfig) (k : ℕ) (h : History) → IsWellFormed h → GapsShow 0 (map (packet_of c) (chunk_of k h))
chunk-gaps c k h is =
    gaps-of c 0 (chunk_of k h)
    (subst (λ (bs : List ClosedBuffer). DiscardsShow 0 bs) (append-nil (chunk_of k h))
    (discards-where (is_kept_in k) 0 0 0 h.closed [] is.covers (omega arith) (λ n e. tt)))

closed-gaps : (c : StreamConfig) (k : ℕ) (h : History) → IsWellFormed h → GapsShow 0 (closed_part c k h).packets
closed-gaps c k h is = by_release (is_released k h)
  where
    by_release : (released : Bool) → GapsShow 0 (part_if released k (map (packet_of c) (chunk_of k h))).packets
    by_release true = tt
    by_release false = chunk-gaps c k h is

-- the gaps of a closed part's packets show
pub part-gaps : (s : StreamState) (k : ℕ) (part : PartState) → IsKept s → slice_get s.parts.closed k ≡ Some part → GapsShow 0 part.packets
part-gaps s k part is at =
    by_place (leb (k + 1) h.cuts)
    (sym at ∙ ap (λ (ps : List PartState). slice_get ps k) stands.closed ∙ below-is s.config h.cuts k h)
  where
    h : History
    h = is.history.0

    stands : StandsFor s h
    stands = is.history.1

    by_place : (within : Bool) → Some part ≡ cond within (Some (closed_part s.config k h)) None → GapsShow 0 part.packets
    by_place true e =
        let same : closed_part s.config k h ≡ part = cc in
        subst (λ (p : PartState). GapsShow 0 p.packets) same (closed-gaps s.config k h stands.model)
    by_place false e = absurd cc

-- those of the current part
pub current-gaps : (s : StreamState) → IsKept s → GapsShow 0 s.parts.current.packets
current-gaps s is =
    subst (λ (p : PartState). GapsShow 0 p.packets) (sym is.history.1.current)
    (chunk-gaps s.config is.history.0.cuts is.history.0 is.history.1.model)

-- and those of the ring
pub ring-gaps : (s : StreamState) → IsKept s → DiscardsShow 0 (ring_buffers 0 s.ring)
ring-gaps s is =
    subst (λ (bs : List ClosedBuffer). DiscardsShow 0 (bs ++ closed_if_any s.ring.seq 0 s.ring.discarded s.ring.current))
    (sym stands.waiting)
    (discards-where is_waiting 0 0 0 h.closed (closed_if_any s.ring.seq 0 s.ring.discarded s.ring.current) stands.model.covers
    (omega arith) (λ n e. last n s.ring.current (omega (arith, e)) stands.filling))
  where
    h : History
    h = is.history.0

    stands : StandsFor s h
    stands = is.history.1

    last : (n : ℕ) (es : List Entry) → n ≤ discarded_in h.closed → es ≡ h.filling.records
        → DiscardsShow n (closed_if_any s.ring.seq 0 s.ring.discarded es)
    last n [] few e = tt
    last n (r ∷ rs) few e = (
      (λ same. subst AreInRow (sym e)
          (row-of (offers_before h.closed) h.filling stands.model.covers_filling (omega (arith, same, few, stands.discarded)))),
      tt,
    )

-- if no more was discarded than before, the serials of the current sub-buffer follow each other
pub current-in_row : (seq lost discarded : ℕ) (current : List Entry) → DiscardsShow discarded (closed_if_any seq 0 lost current)
    → lost ≡ discarded → AreInRow current
current-in_row seq lost discarded [] shows same = tt
current-in_row seq lost discarded (e ∷ es) shows same = shows.0 same
