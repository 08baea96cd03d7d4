-- An audit of the files of a stream's first chunks: those of a session's archives are the first ones.
use Rattle.std.proofs.Common.{◌≡◌, ℕ, ◌+◌, ◌≤◌, ◌<◌, zero, suc, Bool, true, false, List, [], ◌∷◌, ◌++◌, length, map, take, Option, Some, None, refl, sym, ◌∙◌, ap, subst, ◌⊎◌, inl, inr, arith, append_assoc, append-nil}
use Rattle.std.proofs.Math.ListN.{drop}
use Rattle.std.proofs.Math.Seq.{take-append_seam}
use Rattle.std.proofs.lemmas.Bool.{cases_lt}
use Rattle.std.proofs.lemmas.Bool.Decides.{nat_tests}
use Rattle.std.proofs.lemmas.Grind.{flat_map-append}
use Rattle.std.proofs.lemmas.List.{map-append, take-append-drop, take-map}
use Rattle.std.proofs.lemmas.List.Folds.{list_any-append}
use Rattle.std.specs.List.{AllByRecursion, list_any}
use Rattle.std.specs.Prelude.{nat_le, nat_lt, ◌&&◌, ◌||◌}
use Rattle.tr_book.specs.Parts.{PartState}
use Rattle.tr_chunk.specs.Audit.{AreAudited, AreOfStream, BelongsTo, all_of, audit_of, gap_before, gaps_behind, is_in_runs, numbers_of, numbers_rise_after, records_of_packets}
use Rattle.tr_chunk.specs.Files.{packets_text}
use Rattle.tr_packet.specs.Order.{follows, serials_rise_after}
use Rattle.tr_packet.specs.Packets.{Contents, IsPacket}
use Rattle.tr_record.specs.Records.{Entry}
use Rattle.tr_ring.specs.ClosedBuffer.{ClosedBuffer}
use Rattle.tr_session.proofs.AuditLemmas.{all-left, gaps-within, kept-rise, packets-below, passes, rise-numbers}
use Rattle.tr_session.proofs.GapLemmas.{in_gap, low, numbers-packets, seqs}
use Rattle.tr_session.specs.Audits.{NoneReleased, files_of, is_below_one, kept_above, left_below, packets_by_part, was_removed}
use Rattle.tr_stream.proofs.FateLemmas.{parts-are}
use Rattle.tr_stream.proofs.TakeLemmas.{length-parts_below}
use Rattle.tr_stream.specs.Chunks.{buffers_where, chunk_of, closed_part, kept_of, packet_of, parts_below}
use Rattle.tr_stream.specs.Fates.{all_parts}
use Rattle.tr_stream.specs.History.{Cleared, Closed, Dropped, History, Kept, Status, Waiting, is_kept}
use Rattle.tr_stream.specs.Sound.{IsSound}
use Rattle.tr_stream.specs.StandsFor.{StandsFor}
use Rattle.tr_stream.specs.State.{StreamState}
use Rattle.tr_stream.specs.WellFormed.{IsWellFormed, chunks_below}
use Rattle.tr_stream.specs.declared.config.StreamConfig.{StreamConfig}
use Rattle.tr_terms.proofs.BoolLemmas.{both}

-- ---- what is true of all packets is true of the first ones

all-front : {A : Type 0} (P : A → Type 0) (xs ys : List A) → AllByRecursion P (xs ++ ys) → AllByRecursion P xs
all-front P [] ys all = tt
all-front P (x ∷ xs) ys all = (all.0, all-front P xs ys all.1)

numbers-front : (before : Option ℕ) (ns ms : List ℕ) → numbers_rise_after before (ns ++ ms) ≡ true → numbers_rise_after before ns ≡ true
numbers-front before [] ms rise = refl
numbers-front before (n ∷ ns) ms rise = let h =
    both (follows before n) (numbers_rise_after (Some n) (ns ++ ms)) rise in rw (h.0) (numbers-front (Some n) ns ms h.1)

serials-front : (before : Option ℕ) (es fs : List Entry) → serials_rise_after before (es ++ fs) ≡ true → serials_rise_after before es ≡ true
serials-front before [] fs rise = refl
serials-front before (e ∷ es) fs rise = let h =
    both (follows before e.serial) (serials_rise_after (Some e.serial) (es ++ fs)) rise
    in rw (h.0) (serials-front (Some e.serial) es fs h.1)

module _ (uuid : List ℕ) (stream : ℕ) (ps qs : List Contents) where
  of_stream-front : AreOfStream uuid stream (ps ++ qs) → AreOfStream uuid stream ps
  of_stream-front all = record {
    packets = all-front IsPacket ps qs all.packets;
    belong = all-front (BelongsTo uuid stream) ps qs all.belong;
    numbers = numbers-front None (numbers_of ps) (numbers_of qs)
        (ap (numbers_rise_after None) (sym (map-append (λ (p : Contents). p.head.seq) ps qs)) ∙ all.numbers);
    serials = serials-front None (records_of_packets ps) (records_of_packets qs)
        (ap (serials_rise_after None) (sym (flat_map-append (λ (p : Contents). p.records) ps qs)) ∙ all.serials);
  }

-- the first files of a stream pass their audit
pub front-passes : (s : StreamState) (h : History) (k : ℕ) → IsSound s → StandsFor s h
    → AreAudited s.config.uuid s.config.number (take k (files_of s)) (take k (packets_by_part s))
front-passes s h k sound is =
    let pss = packets_by_part s in
    let split : all_of pss ≡ all_of (take k pss) ++ all_of (drop k pss) =
    ap all_of (sym (take-append-drop k pss)) ∙ flat_map-append (λ (ps : List Contents). ps) (take k pss) (drop k pss) in
    record {
      texts = take-map packets_text k pss;
      sound = of_stream-front s.config.uuid s.config.number (all_of (take k pss)) (all_of (drop k pss))
          (subst (λ (ps : List Contents). AreOfStream s.config.uuid s.config.number ps) split (passes s h sound is).sound);
    }

-- ---- the first chunks

chunks-front : (k n : ℕ) (h : History) → k ≤ n → (rest : List ClosedBuffer) × (chunks_below n h ≡ chunks_below k h ++ rest)
chunks-front k zero h le = let none : k ≡ 0 = omega (arith, le) in ([], rw none refl)
chunks-front k (suc n) h le = go (cases_lt k (suc n)) (λ below. chunks-front k n h below)
  where
    go : ((k < suc n) ⊎ (suc n ≤ k)) → (k ≤ n → (rest : List ClosedBuffer) × (chunks_below n h ≡ chunks_below k h ++ rest))
        → (rest : List ClosedBuffer) × (chunks_below (suc n) h ≡ chunks_below k h ++ rest)
    go (inl below) fewer =
        let front = fewer (omega (arith, below)) in (
          front.0 ++ chunk_of n h,
          ap (λ (bs : List ClosedBuffer). bs ++ chunk_of n h) front.1
              ∙ append_assoc (chunks_below k h) front.0 (chunk_of n h),
        )
    go (inr past) fewer = let all : k ≡ suc n = omega (arith, le, past) in ([], rw all (sym (append-nil (chunks_below (suc n) h))))

parts-front : (c : StreamConfig) (k n : ℕ) (h : History) → k ≤ n → (rest : List PartState) × (parts_below c n h ≡ parts_below c k h ++ rest)
parts-front c k zero h le = let none : k ≡ 0 = omega (arith, le) in ([], rw none refl)
parts-front c k (suc n) h le = go (cases_lt k (suc n)) (λ below. parts-front c k n h below)
  where
    next : PartState
    next = closed_part c n h

    go : ((k < suc n) ⊎ (suc n ≤ k)) → (k ≤ n → (rest : List PartState) × (parts_below c n h ≡ parts_below c k h ++ rest))
        → (rest : List PartState) × (parts_below c (suc n) h ≡ parts_below c k h ++ rest)
    go (inl below) fewer =
        let front = fewer (omega (arith, below)) in
        (front.0 ++ next ∷ [], ap (λ (ps : List PartState). ps ++ next ∷ []) front.1 ∙ append_assoc (parts_below c k h) front.0 (next ∷ []))
    go (inr past) fewer = let all : k ≡ suc n = omega (arith, le, past) in ([], rw all (sym (append-nil (parts_below c (suc n) h))))

first-parts : (c : StreamConfig) (k n : ℕ) (h : History) → k ≤ n → take k (parts_below c n h) ≡ parts_below c k h
first-parts c k n h le =
    let front = parts-front c k n h le in
    ap (take k) front.1 ∙ ap (λ (m : ℕ). take m (parts_below c k h ++ front.0)) (sym (length-parts_below c k h))
    ∙ take-append_seam (parts_below c k h) front.0

-- the packets of the first chunks are those of the blocks kept in them, but for released ones
pub front-left : (s : StreamState) (h : History) (k : ℕ) → StandsFor s h → k ≤ h.cuts + 1
    → all_of (take k (packets_by_part s)) ≡ map (packet_of s.config) (left_below k h)
front-left s h k is within =
    let packets = λ (p : PartState). p.packets in
    ap all_of (
    take-map packets k (all_parts s.parts)
    ∙ ap (λ (ps : List PartState). map packets (take k ps)) (parts-are s h is)
    ∙ ap (map packets) (first-parts s.config k (suc h.cuts) h (omega (arith, within)))
    )
    ∙ packets-below s.config k h

pub front-packets : (s : StreamState) (h : History) (k : ℕ) → StandsFor s h → k ≤ h.cuts + 1 → NoneReleased k h
    → all_of (take k (packets_by_part s)) ≡ map (packet_of s.config) (chunks_below k h)
front-packets s h k is within none = front-left s h k is within ∙ ap (map (packet_of s.config)) (all-left k h none)

-- ---- the gaps

-- the gaps after a number are above it
gaps-above : (q n : ℕ) (ns : List ℕ) → numbers_rise_after (Some q) ns ≡ true → n ≤ q → is_in_runs n (gaps_behind (Some q) ns) ≡ false
gaps-above q n [] rise le = refl
gaps-above q n (m ∷ ns) rise le =
    let h = both (nat_lt q m) (numbers_rise_after (Some m) ns) rise in
    let next : q < m = grind (arith, nat_tests, h.0) in
    let rest = gaps-above m n ns h.1 (omega (arith, le, next)) in
    list_any-append (λ r. nat_le r.0 n && nat_lt n (r.0 + r.1)) (gap_before (Some q) m) (gaps_behind (Some m) ns)
    ∙ grind (arith, nat_tests, in_gap (Some q) m n, rest, le)

bool_none : (x : Bool) → false ≡ (x && false)
bool_none true = refl
bool_none false = refl

bool_front : (lo n m : ℕ) (some rest below : Bool) → some ≡ (rest && below) → (n ≤ m → rest ≡ false)
    → ((nat_le lo n && nat_lt n m) || some) ≡ (((nat_le lo n && nat_lt n m) || rest) && (nat_lt n m || below))
bool_front lo n m some rest below is above = grind (arith, nat_tests, is, above)

-- the gaps of the first numbers are those of all below one of the first
gaps-front : (before : Option ℕ) (n : ℕ) (ns ms : List ℕ) → numbers_rise_after before (ns ++ ms) ≡ true
    → is_in_runs n (gaps_behind before ns) ≡ (is_in_runs n (gaps_behind before (ns ++ ms)) && list_any (nat_lt n) ns)
gaps-front before n [] ms rise = bool_none (is_in_runs n (gaps_behind before ms))
gaps-front before n (m ∷ ns) ms rise =
    let h = both (follows before m) (numbers_rise_after (Some m) (ns ++ ms)) rise in
    let some = is_in_runs n (gaps_behind (Some m) ns) in
    let all = is_in_runs n (gaps_behind (Some m) (ns ++ ms)) in
    let is_in = λ (r : ℕ × ℕ). nat_le r.0 n && nat_lt n (r.0 + r.1) in
    let gap = in_gap before m n in
    list_any-append is_in (gap_before before m) (gaps_behind (Some m) ns)
    ∙ ap (λ (g : Bool). g || some) gap
    ∙ bool_front (low before) n m some all (list_any (nat_lt n) ns) (gaps-front (Some m) n ns ms h.1) (gaps-above m n (ns ++ ms) h.1)
    ∙ ap (λ (g : Bool). (g || all) && (nat_lt n m || list_any (nat_lt n) ns)) (sym gap)
    ∙ ap (λ (g : Bool). g && (nat_lt n m || list_any (nat_lt n) ns))
    (sym (list_any-append is_in (gap_before before m) (gaps_behind (Some m) (ns ++ ms))))

below-seqs : (n : ℕ) (bs : List ClosedBuffer) → list_any (nat_lt n) (seqs bs) ≡ is_below_one n bs
below-seqs n [] = refl
below-seqs n (b ∷ bs) = ap (λ (t : Bool). nat_lt n b.seq || t) (below-seqs n bs)

-- below a kept one, by its sub-buffer
below-kept : (n discarded : ℕ) (cs : List Closed) → is_below_one n (buffers_where is_kept discarded cs) ≡ kept_above n cs
below-kept n discarded [] = refl
below-kept n discarded (c ∷ cs) = go c.status refl (below-kept n (discarded + length c.block.discarded) cs)
  where
    go : (st : Status) → c.status ≡ st → is_below_one n (buffers_where is_kept (discarded + length c.block.discarded) cs) ≡ kept_above n cs
        → is_below_one n (buffers_where is_kept discarded (c ∷ cs)) ≡ kept_above n (c ∷ cs)
    go Waiting e rest = rw e (grind (arith, nat_tests, rest))
    go Dropped e rest = rw e (grind (arith, nat_tests, rest))
    go (Kept k) e rest = rw e (grind (arith, nat_tests, rest))
    go (Cleared t) e rest = rw e (grind (arith, nat_tests, rest))

bool_both : (dropped some rest above : Bool) → above ≡ (some || rest) → ((dropped && above) && some) ≡ (dropped && some)
bool_both dropped some rest above is = grind (arith, nat_tests, is)

-- the gaps of the first chunks are the blocks below one kept in them that were dropped or cleared
pub front-gaps : (A : Type 0) (c : StreamConfig) (h : History) (k n : ℕ) → IsWellFormed h → k ≤ h.cuts + 1
    → is_in_runs n (audit_of {A = A} (map (packet_of c) (chunks_below k h))).gaps ≡ (was_removed n h.closed && is_below_one n (chunks_below k h))
front-gaps A c h k n well within =
    let front = chunks_below k h in
    let split = chunks-front k (suc h.cuts) h (omega (arith, within)) in
    let all : kept_of h ≡ front ++ split.0 = sym well.chunks ∙ split.1 in
    let numbers : seqs (kept_of h) ≡ seqs front ++ seqs split.0 = ap seqs all ∙ map-append (λ (b : ClosedBuffer). b.seq) front split.0 in
    let rise : numbers_rise_after None (seqs front ++ seqs split.0) ≡ true =
    ap (numbers_rise_after None) (sym numbers) ∙ rise-numbers None 0 0 (kept_of h) _ _ (omega arith) (kept-rise h well) in
    let gaps : is_in_runs n (gaps_behind None (seqs front ++ seqs split.0)) ≡ (was_removed n h.closed && kept_above n h.closed) =
    ap (λ (ns : List ℕ). is_in_runs n (gaps_behind None ns)) (sym numbers ∙ sym (numbers-packets c (kept_of h))) ∙ gaps-within A c h n well in
    let above : kept_above n h.closed ≡ (is_below_one n front || is_below_one n split.0) =
    sym (below-kept n 0 h.closed) ∙ ap (is_below_one n) all ∙ list_any-append (λ (b : ClosedBuffer). nat_lt n b.seq) front split.0 in
    ap (λ (ns : List ℕ). is_in_runs n (gaps_behind None ns)) (numbers-packets c front)
    ∙ gaps-front None n (seqs front) (seqs split.0) rise
    ∙ ap (λ (g : Bool). g && list_any (nat_lt n) (seqs front)) gaps
    ∙ ap (λ (t : Bool). (was_removed n h.closed && kept_above n h.closed) && t) (below-seqs n front)
    ∙ bool_both (was_removed n h.closed) (is_below_one n front) (is_below_one n split.0) (kept_above n h.closed) above
