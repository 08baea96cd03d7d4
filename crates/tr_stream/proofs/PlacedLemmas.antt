-- The part of a serial is found by where parts began.
use Rattle.std.proofs.Common.{◌≡◌, ◌≢◌, ℕ, ◌+◌, ◌≤◌, ◌<◌, zero, suc, Bool, true, false, cond, eqb, leb, List, [], ◌∷◌, ◌++◌, length, get_or, map, drop, Option, Some, None, refl, sym, ◌∙◌, ap, subst, arith}
use Rattle.std.proofs.lemmas.Bool.Decides.{nat_tests}
use Rattle.std.proofs.lemmas.Grind.{common_steps}
use Rattle.std.specs.List.{AllByRecursion}
use Rattle.std.specs.List.Sorted.{IsNonDecreasing}
use Rattle.std.specs.Option.{option_map, option_or}
use Rattle.std.specs.Prelude.{slice_get}
use Rattle.tr_book.specs.Parts.{PartState, change_at, empty_part, part_at, place_in, release, seq_among, seq_in_part, seq_left, with_packet, with_packets}
use Rattle.tr_book.specs.Counters.{CountersState}
use Rattle.tr_packet.specs.Packets.{Contents}
use Rattle.tr_record.proofs.RecordLemmas.{all_append, all_push}
use Rattle.tr_record.specs.Records.{Entry, has_serial}
use Rattle.tr_ring.specs.ClosedBuffer.{ClosedBuffer}
use Rattle.tr_ring.specs.Ring.{RingState, after_push, closed_current, discard_newest, drop_front, follow_current, join_current, push_answer, seq_waiting}
use Rattle.tr_ring.specs.declared.pushed.Pushed.{Pushed}
use Rattle.tr_ring.specs.declared.pushed.Pushed.TheVariants as pushed
use Rattle.tr_stream.proofs.FateLemmas.{seq_among-packets}
use Rattle.tr_stream.proofs.FormLemmas.{nil-push}
use Rattle.tr_stream.proofs.GoneLemmas.{packets-have}
use Rattle.tr_stream.proofs.PartLemmas.{get-push}
use Rattle.tr_stream.specs.Chunks.{closed_if_any, packet_of, ring_buffers}
use Rattle.tr_stream.specs.Fates.{all_parts, fate_in_parts}
use Rattle.tr_stream.specs.Placed.{ArePlaced, IsBetween, IsBufferBetween, IsEntryBetween, IsPlaced, IsRingBetween, last_start}
use Rattle.tr_stream.specs.State.{StreamState}
use Rattle.tr_stream.specs.StateSteps.{counters_after_push, move_oldest, release_part_unless, state_clear_ring, state_cut_ring, state_unless, state_with_offer}
use Rattle.tr_stream.specs.declared.answers.OfferFault.{OfferFault}
use Rattle.tr_stream.specs.declared.config.StreamConfig.{StreamConfig}
use Rattle.tr_stream.specs.declared.fate.Fate.{Fate}
use Rattle.tr_stream.specs.declared.fate.Fate.TheVariants.{InChunk}

-- ---- the search

-- a part without serials in these bounds doesn't have one outside
has-none : (p : PartState) (n : ℕ) → ((seq : ℕ) → seq_in_part n p ≡ Some seq → ⊥) → seq_in_part n p ≡ None
has-none p n never = by_answer (seq_in_part n p) refl
  where
    by_answer : (o : Option ℕ) → seq_in_part n p ≡ o → seq_in_part n p ≡ None
    by_answer None e = e
    by_answer (Some seq) e = absurd (never seq e)

-- parts that began later don't have it
none-after : (n low : ℕ) (starts : List ℕ) (high : ℕ) (ps : List PartState) → ArePlaced low starts high ps → n < low
    → fate_in_parts n ps ≡ None
none-after n low starts high [] placed before = absurd placed
none-after n low [] high (p ∷ ps) placed before =
    let here : seq_in_part n p ≡ None = has-none p n (λ seq e. let b = placed.1 n seq e in omega (arith, before, b.0)) in
    let rest : fate_in_parts n ps ≡ None = ap (fate_in_parts n) placed.0 in
    rw (here, rest) refl
none-after n low (s ∷ starts) high (p ∷ ps) placed before =
    let here : seq_in_part n p ≡ None = has-none p n (λ seq e. let b = placed.1 n seq e in omega (arith, before, b.0)) in
    let rest = none-after n s starts high ps placed.2 (omega (arith, before, placed.0)) in
    rw (here, rest) refl

or_none : (a : Option Fate) → option_or a None ≡ a
or_none (Some fate) = refl
or_none None = refl

-- the part at the place is the only one that may have it
pub found-at : (n low : ℕ) (starts : List ℕ) (high : ℕ) (ps : List PartState) (p : PartState) → ArePlaced low starts high ps
    → slice_get ps (place_in n starts) ≡ Some p → fate_in_parts n ps ≡ option_map (InChunk p.id) (seq_in_part n p)
found-at n low starts high [] p placed at = absurd placed
found-at n low [] high (q ∷ qs) p placed at =
    let same : q ≡ p = cc in
    let rest : fate_in_parts n qs ≡ None = ap (fate_in_parts n) placed.0 in
    ap (λ (o : Option Fate). option_or (option_map (InChunk q.id) (seq_in_part n q)) o) rest
    ∙ or_none (option_map (InChunk q.id) (seq_in_part n q))
    ∙ ap (λ (r : PartState). option_map (InChunk r.id) (seq_in_part n r)) same
found-at n low (s ∷ starts) high (q ∷ qs) p placed at =
    by_test (leb s n) refl (found-at n s starts high qs p placed.2)
    (ap (λ (b : Bool). slice_get (q ∷ qs) (cond b (place_in n starts + 1) 0)))
  where
    by_test : (b : Bool) → leb s n ≡ b
        → (slice_get qs (place_in n starts) ≡ Some p → fate_in_parts n qs ≡ option_map (InChunk p.id) (seq_in_part n p))
        → ((leb s n ≡ b) → slice_get (q ∷ qs) (cond (leb s n) (place_in n starts + 1) 0) ≡ slice_get (q ∷ qs) (cond b (place_in n starts + 1) 0))
        → fate_in_parts n (q ∷ qs) ≡ option_map (InChunk p.id) (seq_in_part n p)
    by_test true e later is =
        let past : s ≤ n = grind (arith, nat_tests, e) in
        let here : seq_in_part n q ≡ None = has-none q n (λ seq f. let b = placed.1 n seq f in omega (arith, past, b.1)) in
        let next : slice_get (q ∷ qs) (place_in n starts + 1) ≡ slice_get qs (place_in n starts) =
        (let one : place_in n starts + 1 ≡ suc (place_in n starts) = omega arith in ap (slice_get (q ∷ qs)) one) in
        rw here (later (sym next ∙ sym (is e) ∙ at))
    by_test false e later is =
        let before : n < s = grind (arith, nat_tests, e) in
        let same : q ≡ p = (let first : Some q ≡ Some p = sym (is e) ∙ at in cc) in
        let rest = none-after n s starts high qs placed.2 before in
        ap (λ (o : Option Fate). option_or (option_map (InChunk q.id) (seq_in_part n q)) o) rest
        ∙ or_none (option_map (InChunk q.id) (seq_in_part n q))
        ∙ ap (λ (r : PartState). option_map (InChunk r.id) (seq_in_part n r)) same

-- there is one
pub found-there : (n low : ℕ) (starts : List ℕ) (high : ℕ) (ps : List PartState) → ArePlaced low starts high ps
    → slice_get ps (place_in n starts) ≢ None
found-there n low starts high [] placed none = placed
found-there n low [] high (p ∷ ps) placed none = cc
found-there n low (s ∷ starts) high (p ∷ ps) placed none = by_test (leb s n) none (found-there n s starts high ps placed.2)
  where
    by_test : (b : Bool) → slice_get (p ∷ ps) (cond b (place_in n starts + 1) 0) ≡ None → slice_get ps (place_in n starts) ≢ None → ⊥
    by_test true none' more =
        let one : place_in n starts + 1 ≡ suc (place_in n starts) = omega arith in
        more (sym (ap (slice_get (p ∷ ps)) one) ∙ none')
    by_test false none' more = cc

-- parts began one after another
least-start : (low : ℕ) (starts : List ℕ) (high : ℕ) (ps : List PartState) → ArePlaced low starts high ps → (j d : ℕ) → j < length starts
    → low ≤ get_or starts j d
least-start low starts high [] placed j d within = absurd placed
least-start low [] high (p ∷ ps) placed j d within = absurd (omega (arith, within))
least-start low (s ∷ starts) high (p ∷ ps) placed zero d within = placed.0
least-start low (s ∷ starts) high (p ∷ ps) placed (suc j) d within =
    let more = least-start s starts high ps placed.2 j d (grind (arith, common_steps, within)) in omega (arith, placed.0, more)

pub starts-rise : (low : ℕ) (starts : List ℕ) (high : ℕ) (ps : List PartState) → ArePlaced low starts high ps → IsNonDecreasing starts
starts-rise low starts high [] placed = absurd placed
starts-rise low [] high (p ∷ ps) placed = λ i j d le within. absurd (omega (arith, within))
starts-rise low (s ∷ starts) high (p ∷ ps) placed = go (starts-rise s starts high ps placed.2)
  where
    go : IsNonDecreasing starts → IsNonDecreasing (s ∷ starts)
    go later zero zero d le within = omega arith
    go later zero (suc j) d le within = least-start s starts high ps placed.2 j d (grind (arith, common_steps, within))
    go later (suc i) zero d le within = absurd (omega (arith, le))
    go later (suc i) (suc j) d le within = later i j d (omega (arith, le)) (grind (arith, common_steps, within))

-- a part by its place
at-place : (n k : ℕ) (s : StreamState) (o : Option PartState) → k ≡ place_in n s.parts.starts → o ≡ part_at k s.parts
    → slice_get (all_parts s.parts) (place_in n s.parts.starts) ≡ o
at-place n k s o place is =
    ap (slice_get (all_parts s.parts)) (sym place) ∙ get-push s.parts.closed s.parts.current k ∙ sym is

pub placed-there : (n k : ℕ) (s : StreamState) → IsPlaced s → k ≡ place_in n s.parts.starts
    → (let o : Option PartState = None in o) ≡ part_at k s.parts → ⊥
placed-there n k s is place none =
    found-there n 0 s.parts.starts s.counters.offered (all_parts s.parts) is.parts (at-place n k s None place none)

pub placed-fate : (n k : ℕ) (s : StreamState) (p : PartState) (o : Option ℕ) → IsPlaced s → k ≡ place_in n s.parts.starts
    → Some p ≡ part_at k s.parts → seq_in_part n p ≡ o → option_map (InChunk p.id) o ≡ fate_in_parts n (all_parts s.parts)
placed-fate n k s p o is place at seq =
    ap (option_map (InChunk p.id)) (sym seq)
    ∙ sym (found-at n 0 s.parts.starts s.counters.offered (all_parts s.parts) p is.parts (at-place n k s (Some p) place at))

-- ---- one part changes

-- the current part
pub placed-last : (low : ℕ) (starts : List ℕ) (high : ℕ) (closed : List PartState) (p : PartState)
    → ArePlaced low starts high (closed ++ p ∷ []) → IsBetween (last_start low starts) high p
placed-last low [] high [] p placed = placed.1
placed-last low [] high (c ∷ closed) p placed = absurd (nil-push closed p placed.0)
placed-last low (s ∷ starts) high [] p placed = absurd placed.2
placed-last low (s ∷ starts) high (c ∷ closed) p placed = placed-last s starts high closed p placed.2

placed-current : (low : ℕ) (starts : List ℕ) (high more : ℕ) (closed : List PartState) (p q : PartState)
    → ArePlaced low starts high (closed ++ p ∷ []) → IsBetween (last_start low starts) more q
    → ArePlaced low starts more (closed ++ q ∷ [])
placed-current low [] high more [] p q placed is = (refl, is)
placed-current low [] high more (c ∷ closed) p q placed is = absurd (nil-push closed p placed.0)
placed-current low (s ∷ starts) high more [] p q placed is = absurd placed.2
placed-current low (s ∷ starts) high more (c ∷ closed) p q placed is =
    (placed.0, placed.1, placed-current s starts high more closed p q placed.2 is)

-- the current part is closed, and one without records follows
placed-cut : (low : ℕ) (starts : List ℕ) (high : ℕ) (closed : List PartState) (p q : PartState)
    → ArePlaced low starts high (closed ++ p ∷ []) → last_start low starts ≤ high → IsBetween high high q
    → ArePlaced low (starts ++ high ∷ []) high ((closed ++ p ∷ []) ++ q ∷ [])
placed-cut low [] high [] p q placed le is = (le, placed.1, (refl, is))
placed-cut low [] high (c ∷ closed) p q placed le is = absurd (nil-push closed p placed.0)
placed-cut low (s ∷ starts) high [] p q placed le is = absurd placed.2
placed-cut low (s ∷ starts) high (c ∷ closed) p q placed le is = (placed.0, placed.1, placed-cut s starts high closed p q placed.2 le is)

pub last-cut : (low : ℕ) (starts : List ℕ) (next : ℕ) → last_start low (starts ++ next ∷ []) ≡ next
last-cut low [] next = refl
last-cut low (s ∷ starts) next = last-cut s starts next

-- a closed part is released
between-released : (low high : ℕ) (p : PartState) → p.released ≡ None → IsBetween low high p → IsBetween low high (release p)
between-released low high p held is = λ n seq e.
    is n seq (ap (seq_left n p.packets) held ∙ sym (packets-have n p.packets) ∙ e)

placed-released : (k low : ℕ) (starts : List ℕ) (high : ℕ) (closed : List PartState) (p q : PartState) → slice_get closed k ≡ Some q
    → q.released ≡ None → ArePlaced low starts high (closed ++ p ∷ []) → ArePlaced low starts high (change_at k release closed ++ p ∷ [])
placed-released k low starts high [] p q at held placed = cc
placed-released k low [] high (c ∷ closed) p q at held placed = absurd (nil-push closed p placed.0)
placed-released zero low (s ∷ starts) high (c ∷ closed) p q at held placed =
    let same : c ≡ q = cc in
    (placed.0, between-released low s c (ap (λ (r : PartState). r.released) same ∙ held) placed.1, placed.2)
placed-released (suc k) low (s ∷ starts) high (c ∷ closed) p q at held placed =
    (placed.0, placed.1, placed-released k s starts high closed p q at held placed.2)

-- ---- what the ring has

entries-more : (low high more : ℕ) (es : List Entry) → high ≤ more → AllByRecursion (IsEntryBetween low high) es
    → AllByRecursion (IsEntryBetween low more) es
entries-more low high more [] le all = tt
entries-more low high more (e ∷ es) le all = ((all.0.0, omega (arith, all.0.1, le)), entries-more low high more es le all.1)

buffers-more : (low high more : ℕ) (bs : List ClosedBuffer) → high ≤ more → AllByRecursion (IsBufferBetween low high) bs
    → AllByRecursion (IsBufferBetween low more) bs
buffers-more low high more [] le all = tt
buffers-more low high more (b ∷ bs) le all = (entries-more low high more b.records le all.0, buffers-more low high more bs le all.1)

entries-has : (low high n : ℕ) (es : List Entry) → AllByRecursion (IsEntryBetween low high) es → has_serial n es ≡ true → (low ≤ n) × (n < high)
entries-has low high n [] all has = cc
entries-has low high n (e ∷ es) all has = by_test (eqb e.serial n) refl has (entries-has low high n es all.1)
  where
    by_test : (b : Bool) → eqb e.serial n ≡ b → has_serial n (e ∷ es) ≡ true → (has_serial n es ≡ true → (low ≤ n) × (n < high))
        → (low ≤ n) × (n < high)
    by_test true f has' later =
        let same : e.serial ≡ n = grind (arith, nat_tests, f) in (omega (arith, all.0.0, same), omega (arith, all.0.1, same))
    by_test false f has' later = later (grind (arith, f, has'))

buffers-has : (low high n : ℕ) (bs : List ClosedBuffer) (seq : ℕ) → AllByRecursion (IsBufferBetween low high) bs → seq_waiting n bs ≡ Some seq
    → (low ≤ n) × (n < high)
buffers-has low high n [] seq all found = cc
buffers-has low high n (b ∷ bs) seq all found = by_test (has_serial n b.records) refl (buffers-has low high n bs seq all.1)
  where
    by_test : (h : Bool) → has_serial n b.records ≡ h → (seq_waiting n bs ≡ Some seq → (low ≤ n) × (n < high)) → (low ≤ n) × (n < high)
    by_test true e later = entries-has low high n b.records all.0 e
    by_test false e later = later (grind (arith, common_steps, e, found))

among-append : (n : ℕ) (ps qs : List Contents) → seq_among n (ps ++ qs) ≡ option_or (seq_among n ps) (seq_among n qs)
among-append n [] qs = refl
among-append n (p ∷ ps) qs = grind (arith, common_steps, among-append n ps qs)

-- a part to which such packets come
between-with : (c : StreamConfig) (low high : ℕ) (p q : PartState) (bs : List ClosedBuffer) → p.released ≡ None
    → IsBetween low high p → AllByRecursion (IsBufferBetween low high) bs
    → q ≡ (let grown : PartState = record p { packets = p.packets ++ map (packet_of c) bs } in grown) → IsBetween low high q
between-with c low high p q bs held is all grown = λ n seq e.
    let there : option_or (seq_among n p.packets) (seq_waiting n bs) ≡ Some seq =
    sym (ap (λ (r : PartState). seq_in_part n r) grown
    ∙ ap (seq_left n (p.packets ++ map (packet_of c) bs)) held
    ∙ among-append n p.packets (map (packet_of c) bs)
    ∙ ap (option_or (seq_among n p.packets)) (seq_among-packets n c bs)) ∙ e in
    by_first n seq (seq_among n p.packets) refl there
  where
    by_first : (n seq : ℕ) (o : Option ℕ) → seq_among n p.packets ≡ o → option_or o (seq_waiting n bs) ≡ Some seq → (low ≤ n) × (n < high)
    by_first n seq (Some first) e there = is n first (ap (seq_left n p.packets) held ∙ e)
    by_first n seq None e there = buffers-has low high n bs seq all there

ring-buffers : (low high end : ℕ) (r : RingState) → IsRingBetween low high r → AllByRecursion (IsBufferBetween low high) (ring_buffers end r)
ring-buffers low high end r is =
    all_append (IsBufferBetween low high) r.waiting (closed_if_any r.seq end r.discarded r.current) is.0 (closing r.current is.1)
  where
    closing : (es : List Entry) → AllByRecursion (IsEntryBetween low high) es
        → AllByRecursion (IsBufferBetween low high) (closed_if_any r.seq end r.discarded es)
    closing [] all = tt
    closing (e ∷ es) all = (all, tt)

-- ---- each call

pushed-ring : (low high : ℕ) (e : Entry) (r : RingState) (room free over : Bool) → low ≤ e.serial → e.serial < high → IsRingBetween low high r
    → IsRingBetween low high (cond room (join_current e r)
    (cond free (follow_current e r) (cond over (follow_current e (drop_front r)) (discard_newest r))))
pushed-ring low high e r true free over from below is = (is.0, all_push (IsEntryBetween low high) r.current e is.1 (from, below))
pushed-ring low high e r false true over from below is =
    (all_push (IsBufferBetween low high) r.waiting (closed_current e.moment r) is.0 is.1, ((from, below), tt))
pushed-ring low high e r false false true from below is =
    (all_push (IsBufferBetween low high) (drop 1 r.waiting) (closed_current e.moment r) (dropped r.waiting is.0) is.1, ((from, below), tt))
  where
    dropped : (bs : List ClosedBuffer) → AllByRecursion (IsBufferBetween low high) bs → AllByRecursion (IsBufferBetween low high) (drop 1 bs)
    dropped [] all = tt
    dropped (b ∷ bs) all = all.1
pushed-ring low high e r false false false from below is = is

offered-more : (p : Pushed) (moment : ℕ) (b : CountersState) → (counters_after_push p moment b).offered ≡ b.offered + 1
offered-more (pushed.Stored seq) moment b = refl
offered-more (pushed.StoredOver seq gone_seq gone_count) moment b = refl
offered-more pushed.Refused moment b = refl

pub placed-offered : (s : StreamState) (e : Entry) (refusal : Option OfferFault) → e.serial ≡ s.counters.offered → IsPlaced s
    → IsPlaced (state_unless refusal e s)
placed-offered s e (Some fault) next is = is
placed-offered s e None next is =
    let low = last_start 0 s.parts.starts in
    let high = s.counters.offered in
    let more : (state_with_offer e s).counters.offered ≡ high + 1 = offered-more (push_answer e s.ring) e.moment s.counters in
    let last = placed-last 0 s.parts.starts high s.parts.closed s.parts.current is.parts in
    record {
      parts = subst (λ (n : ℕ). ArePlaced 0 s.parts.starts n (all_parts s.parts)) (sym more)
          (placed-current 0 s.parts.starts high (high + 1) s.parts.closed s.parts.current s.parts.current is.parts
          (λ n seq f. let b = last n seq f in (b.0, omega (arith, b.1))));
      begun = omega (arith, is.begun, more);
      ring = subst (λ (n : ℕ). IsRingBetween low n (after_push e s.ring)) (sym more)
          (pushed-ring low (high + 1) e s.ring _ _ s.ring.overwrite (omega (arith, next, is.begun)) (omega (arith, next)) (
            buffers-more low high (high + 1) s.ring.waiting (omega arith) is.ring.0,
            entries-more low high (high + 1) s.ring.current (omega arith) is.ring.1,
          ));
    }

pub placed-oldest : (s : StreamState) (waiting : List ClosedBuffer) → s.ring.waiting ≡ waiting → s.parts.current.released ≡ None → IsPlaced s
    → IsPlaced (move_oldest waiting s)
placed-oldest s [] oldest held is = is
placed-oldest s (b ∷ bs) oldest held is =
    let low = last_start 0 s.parts.starts in
    let high = s.counters.offered in
    let waits : AllByRecursion (IsBufferBetween low high) (b ∷ bs) = subst (λ (ws : List ClosedBuffer). AllByRecursion (IsBufferBetween low high) ws) oldest is.ring.0 in
    let last = placed-last 0 s.parts.starts high s.parts.closed s.parts.current is.parts in
    record {
      parts = placed-current 0 s.parts.starts high high s.parts.closed s.parts.current (with_packet (packet_of s.config b) s.parts).current is.parts
          (between-with s.config low high s.parts.current (with_packet (packet_of s.config b) s.parts).current (b ∷ []) held last (waits.0, tt) refl);
      begun = is.begun;
      ring = (subst (λ (ws : List ClosedBuffer). AllByRecursion (IsBufferBetween low high) (drop 1 ws)) (sym oldest) waits.1, is.ring.1);
    }

pub nothing-in : (n id seq : ℕ) → seq_in_part n (empty_part id) ≡ Some seq → ⊥
nothing-in n id seq e = cc

pub placed-cut_ring : (s : StreamState) (end : ℕ) → s.parts.current.released ≡ None → IsPlaced s → IsPlaced (state_cut_ring end s)
placed-cut_ring s end held is =
    let low = last_start 0 s.parts.starts in
    let high = s.counters.offered in
    let last = placed-last 0 s.parts.starts high s.parts.closed s.parts.current is.parts in
    let grown = (with_packets (map (packet_of s.config) (ring_buffers end s.ring)) s.parts).current in
    let with_it = between-with s.config low high s.parts.current grown (ring_buffers end s.ring) held last
    (ring-buffers low high end s.ring is.ring) refl in
    record {
      parts = placed-cut 0 s.parts.starts high s.parts.closed grown (empty_part (s.parts.current.id + 1))
          (placed-current 0 s.parts.starts high high s.parts.closed s.parts.current grown is.parts with_it) is.begun
          (λ n seq e. absurd (nothing-in n (s.parts.current.id + 1) seq e));
      begun = omega (arith, last-cut 0 s.parts.starts high);
      ring = (tt, tt);
    }

pub placed-clear_ring : (s : StreamState) → IsPlaced s → IsPlaced (state_clear_ring s)
placed-clear_ring s is = record {
  parts = placed-current 0 s.parts.starts s.counters.offered s.counters.offered s.parts.closed s.parts.current
      (empty_part s.parts.current.id) is.parts (λ n seq e. absurd (nothing-in n s.parts.current.id seq e));
  begun = is.begun;
  ring = (tt, tt);
}

pub placed-release : (s : StreamState) (k : ℕ) (p : PartState) → slice_get s.parts.closed k ≡ Some p → p.released ≡ None → IsPlaced s
    → IsPlaced (release_part_unless None k s)
placed-release s k p at held is = record {
  parts = placed-released k 0 s.parts.starts s.counters.offered s.parts.closed s.parts.current p at held is.parts;
  begun = is.begun;
  ring = is.ring;
}
