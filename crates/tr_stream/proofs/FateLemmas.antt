-- A serial's fate by what a stream holds is its fate by the history.
use Rattle.std.proofs.Common.{◌≡◌, ℕ, ◌+◌, ◌≤◌, ◌<◌, zero, suc, Bool, true, false, cond, eqb, List, [], ◌∷◌, ◌++◌, length, map, Option, Some, None, refl, sym, ◌∙◌, ap, subst, inl, inr, arith, ap₂}
use Rattle.std.proofs.lemmas.Bool.{cases_eq}
use Rattle.std.proofs.lemmas.Bool.Decides.{nat_tests}
use Rattle.std.proofs.lemmas.Grind.{common_steps}
use Rattle.std.proofs.lemmas.List.Sums.{sum_by-cons, count_by-le-length}
use Rattle.std.specs.List.{list_any}
use Rattle.std.specs.Option.{option_map, option_or, unwrap_or}
use Rattle.std.specs.Prelude.{sum_by, count_by, nat_lt}
use Rattle.tr_book.specs.Parts.{PartState, begun_at, known_from, seq_among, seq_in_part}
use Rattle.tr_book.specs.Runs.{seq_in_runs}
use Rattle.tr_terms.specs.declared.mode.Mode.{Mode}
use Rattle.tr_terms.specs.declared.mode.Mode.TheVariants as mode
use Rattle.tr_record.specs.Records.{Entry, has_serial}
use Rattle.tr_ring.specs.ClosedBuffer.{ClosedBuffer}
use Rattle.tr_ring.specs.Ring.{seq_waiting, seq_of}
use Rattle.tr_stream.proofs.ChunkLemmas.{records_where-cons, discarded_in-cons}
use Rattle.tr_stream.proofs.GoneLemmas.{runs-have}
use Rattle.tr_stream.specs.Chunks.{buffers_where, chunk_of, cleared_of, waiting_of, packet_of, parts_below, closed_part}
use Rattle.tr_stream.specs.Fates.{is_discarded_in, holder, status_fate, holder_fate, block_fate, all_parts, fate_in_parts, held_fate, loss_of, fate_unless, found_fate, history_fate, state_fate}
use Rattle.tr_stream.specs.History.{Status, Waiting, Dropped, Kept, Cleared, Block, Closed, History, is_waiting, is_dropped, is_kept_in, is_cleared, discarded_in, records_where, discarded_of, times_in, is_released}
use Rattle.tr_stream.specs.Kept.{IsKept}
use Rattle.tr_stream.specs.Sound.{LosesByMode}
use Rattle.tr_stream.specs.StandsFor.{StandsFor}
use Rattle.tr_stream.specs.State.{StreamState}
use Rattle.tr_stream.specs.WellFormed.{IsWithin, AllWithinCuts}
use Rattle.tr_stream.specs.declared.config.StreamConfig.{StreamConfig}
use Rattle.tr_stream.specs.declared.fate.Fate.{Fate}
use Rattle.tr_stream.specs.declared.fate.Fate.TheVariants.{Discarded, Overwritten, InRing, InChunk, Forgotten}
use Rattle.tr_stream.specs.declared.fate.Fate.TheVariants as fate
use Rattle.tr_stream.proofs.ReleaseForms.{if-seq, if-id, current-held}

counts_any : {X : Type 0} (p : X → Bool) (xs : List X) → list_any p xs ≡ true → 0 < count_by p xs
counts_any p [] any = cc
counts_any p (x ∷ xs) any = grind (arith, common_steps, counts_any p xs, sum_by-cons (λ y. cond (p y) 1 0) x xs)

counts_none : {X : Type 0} (p : X → Bool) (xs : List X) → list_any p xs ≡ false → count_by p xs ≡ 0
counts_none p [] none = refl
counts_none p (x ∷ xs) none = grind (arith, common_steps, counts_none p xs, sum_by-cons (λ y. cond (p y) 1 0) x xs)

-- how often the records of blocks have a serial, and how often it was discarded while blocks were filling
abbrev held_times : ℕ → List Closed → ℕ
held_times n cs = sum_by (λ (c : Closed). count_by (λ (r : Entry). eqb r.serial n) c.block.records) cs

abbrev discarded_times : ℕ → List Closed → ℕ
discarded_times n cs = sum_by (λ (c : Closed). count_by (λ (m : ℕ). eqb m n) c.block.discarded) cs

held_times-cons : (n : ℕ) (c : Closed) (cs : List Closed)
    → held_times n (c ∷ cs) ≡ count_by (λ (r : Entry). eqb r.serial n) c.block.records + held_times n cs
held_times-cons n c cs = sum_by-cons (λ (c : Closed). count_by (λ (r : Entry). eqb r.serial n) c.block.records) c cs

discarded_times-cons : (n : ℕ) (c : Closed) (cs : List Closed)
    → discarded_times n (c ∷ cs) ≡ count_by (λ (m : ℕ). eqb m n) c.block.discarded + discarded_times n cs
discarded_times-cons n c cs = sum_by-cons (λ (c : Closed). count_by (λ (m : ℕ). eqb m n) c.block.discarded) c cs

times-split : (n : ℕ) (cs : List Closed) → sum_by (λ (c : Closed). times_in n c.block) cs ≡ held_times n cs + discarded_times n cs
times-split n [] = refl
times-split n (c ∷ cs) = omega (
  arith,
  times-split n cs,
  held_times-cons n c cs,
  discarded_times-cons n c cs,
  sum_by-cons (λ (c : Closed). times_in n c.block) c cs,
)

has_counts : (n : ℕ) (rs : List Entry) → has_serial n rs ≡ true → 0 < count_by (λ (r : Entry). eqb r.serial n) rs
has_counts n rs has = counts_any (λ (r : Entry). eqb r.serial n) rs has

hasn't_count : (n : ℕ) (rs : List Entry) → has_serial n rs ≡ false → count_by (λ (r : Entry). eqb r.serial n) rs ≡ 0
hasn't_count n rs not = counts_none (λ (r : Entry). eqb r.serial n) rs not

-- what the search finds is held
found_counts : (wanted : Status → Bool) (n discarded : ℕ) (cs : List Closed) (q : ℕ)
    → seq_waiting n (buffers_where wanted discarded cs) ≡ Some q → 0 < held_times n cs
found_counts wanted n discarded [] q found = cc
found_counts wanted n discarded (c ∷ cs) q found =
    grind (
      arith,
      common_steps,
      found_counts wanted n (discarded + length c.block.discarded) cs q,
      held_times-cons n c cs,
      has_counts n c.block.records,
    )

-- what the search finds among the blocks of a status gives the fate
found : (wanted : Status → Bool) (F : ℕ → Fate) → ((st : Status) (q : ℕ) → wanted st ≡ true → status_fate st q ≡ F q)
    → (n discarded : ℕ) (cs : List Closed) (filling : Block) (q : ℕ) → held_times n cs ≤ 1
    → seq_waiting n (buffers_where wanted discarded cs) ≡ Some q → holder_fate (holder n cs) filling ≡ F q
found wanted F tells n discarded [] filling q once there = cc
found wanted F tells n discarded (c ∷ cs) filling q once there =
    grind (
      arith,
      common_steps,
      found wanted F tells n (discarded + length c.block.discarded) cs filling q,
      found_counts wanted n (discarded + length c.block.discarded) cs q,
      held_times-cons n c cs,
      has_counts n c.block.records,
      tells c.status c.block.number,
    )

-- none is found among the others either
tail_none : (wanted : Status → Bool) (n discarded : ℕ) (c : Closed) (cs : List Closed)
    → seq_waiting n (buffers_where wanted discarded (c ∷ cs)) ≡ None
    → (seq_waiting n (buffers_where wanted (discarded + length c.block.discarded) cs) ≡ None)
    × (wanted c.status ≡ true → has_serial n c.block.records ≡ false)
tail_none wanted n discarded c cs none = grind (arith, common_steps)

-- a block that is neither waiting nor kept nor cleared was dropped
dropped_else : (cuts : ℕ) (st : Status) → IsWithin cuts st → is_waiting st ≡ false → is_cleared st ≡ false → ((k : ℕ) → k ≤ cuts → is_kept_in k st ≡ false) → st ≡ Dropped
dropped_else cuts Waiting within waits gone kept = cc
dropped_else cuts Dropped within waits gone kept = refl
dropped_else cuts (Cleared c) within waits gone kept = cc
dropped_else cuts (Kept k) within waits gone kept = let e = kept k within in grind (arith, nat_tests)

-- no packet that is held has it, and none that was cleared had it
pub record NotFound (n cuts discarded : ℕ) (cs : List Closed) : Type 0 where
  pub within : AllWithinCuts cuts cs
  pub waiting : seq_waiting n (buffers_where is_waiting discarded cs) ≡ None
  pub cleared : seq_waiting n (buffers_where is_cleared discarded cs) ≡ None
  pub kept : (k : ℕ) → k ≤ cuts → seq_waiting n (buffers_where (is_kept_in k) discarded cs) ≡ None

not_found_more : (n cuts discarded : ℕ) (c : Closed) (cs : List Closed) → NotFound n cuts discarded (c ∷ cs)
    → NotFound n cuts (discarded + length c.block.discarded) cs
not_found_more n cuts discarded c cs not = record {
  within = not.within.1;
  waiting = (tail_none is_waiting n discarded c cs not.waiting).0;
  cleared = (tail_none is_cleared n discarded c cs not.cleared).0;
  kept = λ k le. (tail_none (is_kept_in k) n discarded c cs (not.kept k le)).0;
}

-- then the block that has it was dropped
has_dropped : (n cuts discarded : ℕ) (c : Closed) (cs : List Closed) → NotFound n cuts discarded (c ∷ cs)
    → has_serial n c.block.records ≡ true → c.status ≡ Dropped
has_dropped n cuts discarded c cs not has = dropped_else cuts c.status not.within.0 waits gone kept
  where
    gone : is_cleared c.status ≡ false
    gone = let t = (tail_none is_cleared n discarded c cs not.cleared).1 in grind (arith, t)

    waits : is_waiting c.status ≡ false
    waits = let t = (tail_none is_waiting n discarded c cs not.waiting).1 in grind (arith, t)

    kept : (k : ℕ) → k ≤ cuts → is_kept_in k c.status ≡ false
    kept k le = let t = (tail_none (is_kept_in k) n discarded c cs (not.kept k le)).1 in grind (arith, t)

-- the fate of a serial that some block has and that isn't found
dropped_fate : (n cuts discarded : ℕ) (cs : List Closed) (filling : Block) → NotFound n cuts discarded cs
    → 0 < held_times n cs → holder_fate (holder n cs) filling ≡ Overwritten
dropped_fate n cuts discarded [] filling not some = absurd (omega arith)
dropped_fate n cuts discarded (c ∷ cs) filling not some =
    grind (
      arith,
      common_steps,
      dropped_fate n cuts (discarded + length c.block.discarded) cs filling (not_found_more n cuts discarded c cs not),
      held_times-cons n c cs,
      hasn't_count n c.block.records,
      has_dropped n cuts discarded c cs not,
    )

-- if no record was dropped, none has it
none_held : (n cuts discarded : ℕ) (cs : List Closed) → NotFound n cuts discarded cs → records_where is_dropped cs ≡ 0 → held_times n cs ≡ 0
none_held n cuts discarded [] not stored = refl
none_held n cuts discarded (c ∷ cs) not stored =
    grind (
      arith,
      common_steps,
      none_held n cuts (discarded + length c.block.discarded) cs (not_found_more n cuts discarded c cs not),
      held_times-cons n c cs,
      hasn't_count n c.block.records,
      has_dropped n cuts discarded c cs not,
      records_where-cons is_dropped c cs,
      count_by-le-length (λ (r : Entry). eqb r.serial n) c.block.records,
    )

-- what is never discarded isn't discarded by a block
none_discarded : (n : ℕ) (cs : List Closed) → discarded_times n cs ≡ 0 → list_any (λ (c : Closed). is_discarded_in n c.block) cs ≡ false
none_discarded n [] never = refl
none_discarded n (c ∷ cs) never =
    grind (
      arith,
      common_steps,
      none_discarded n cs,
      discarded_times-cons n c cs,
      counts_any (λ (m : ℕ). eqb m n) c.block.discarded,
    )

some_discarded : (n : ℕ) (cs : List Closed) → list_any (λ (c : Closed). is_discarded_in n c.block) cs ≡ false → discarded_times n cs ≡ 0
some_discarded n [] none = refl
some_discarded n (c ∷ cs) none =
    grind (
      arith,
      common_steps,
      some_discarded n cs,
      discarded_times-cons n c cs,
      counts_none (λ (m : ℕ). eqb m n) c.block.discarded,
    )

-- if nothing is discarded at all, neither is this
discarded_in_counts : (n : ℕ) (cs : List Closed) → discarded_in cs ≡ 0 → discarded_times n cs ≡ 0
discarded_in_counts n [] never = refl
discarded_in_counts n (c ∷ cs) never =
    grind (
      arith,
      common_steps,
      discarded_in_counts n cs,
      discarded_times-cons n c cs,
      discarded_in-cons c cs,
      count_by-le-length (λ (m : ℕ). eqb m n) c.block.discarded,
    )

-- if no block has it, the search ends at the filling one
none_holds : (n : ℕ) (cs : List Closed) → held_times n cs ≡ 0 → holder n cs ≡ None
none_holds n [] never = refl
none_holds n (c ∷ cs) never = grind (arith, common_steps, none_holds n cs, held_times-cons n c cs, has_counts n c.block.records)

-- a packet has its sub-buffer's number and records
pub seq_among-packets : (n : ℕ) (c : StreamConfig) (bs : List ClosedBuffer) → seq_among n (map (packet_of c) bs) ≡ seq_waiting n bs
seq_among-packets n c [] = refl
seq_among-packets n c (b ∷ bs) = grind (arith, common_steps, seq_among-packets n c bs)

-- one more part
fate_in_parts-push : (n : ℕ) (parts : List PartState) (part : PartState)
    → fate_in_parts n (parts ++ part ∷ [])
    ≡ option_or (fate_in_parts n parts) (option_map (InChunk part.id) (seq_in_part n part))
fate_in_parts-push n [] part = or_none (option_map (InChunk part.id) (seq_in_part n part))
  where
    or_none : (a : Option Fate) → option_or a None ≡ a
    or_none (Some fate) = refl
    or_none None = refl
fate_in_parts-push n (p ∷ parts) part = or_before (option_map (InChunk p.id) (seq_in_part n p)) _ _ _ (fate_in_parts-push n parts part)
  where
    or_before : (a b c d : Option Fate) → b ≡ option_or c d → option_or a b ≡ option_or (option_or a c) d
    or_before (Some fate) b c d e = refl
    or_before None b c d e = e

-- what the chunk of one more cut adds
fate_in_chunks : (n k : ℕ) (c : StreamConfig) (h : History)
    → fate_in_parts n (parts_below c (suc k) h)
    ≡ option_or (fate_in_parts n (parts_below c k h)) (option_map (InChunk k) (seq_waiting n (chunk_of k h)))
fate_in_chunks n k c h =
    let ps = map (packet_of c) (chunk_of k h) in
    let found = if-seq n (is_released k h) k ps ∙ seq_among-packets n c (chunk_of k h) in
    fate_in_parts-push n (parts_below c k h) (closed_part c k h)
    ∙ ap₂ (λ (i : ℕ) (q : Option ℕ). option_or (fate_in_parts n (parts_below c k h)) (option_map (InChunk i) q))
    (if-id (is_released k h) k ps) found

-- a chunk that has the serial, and the fate that it gives
abbrev InSomeChunk : ℕ → History → Fate → Type 0
InSomeChunk n h fate = (j : ℕ) × (q : ℕ) × (seq_waiting n (chunk_of j h) ≡ Some q) × (fate ≡ InChunk j q)

found_split : (n k : ℕ) (h : History) (fate : Fate) (a : Option Fate) (b : Option ℕ)
    → (a ≡ Some fate → InSomeChunk n h fate) → seq_waiting n (chunk_of k h) ≡ b
    → option_or a (option_map (InChunk k) b) ≡ Some fate → InSomeChunk n h fate
found_split n k h fate (Some other) b before here there = before there
found_split n k h fate None (Some q) before here there = (k, q, here, cc)
found_split n k h fate None None before here there = cc

-- what parts give is some chunk's answer
parts_found : (n k : ℕ) (c : StreamConfig) (h : History) (fate : Fate) → fate_in_parts n (parts_below c k h) ≡ Some fate → InSomeChunk n h fate
parts_found n zero c h fate there = cc
parts_found n (suc k) c h fate there =
    found_split n k h fate (fate_in_parts n (parts_below c k h)) (seq_waiting n (chunk_of k h)) (parts_found n k c h fate)
    refl (sym (fate_in_chunks n k c h) ∙ there)

none_split : (k : ℕ) (a : Option Fate) (b : Option ℕ) → option_or a (option_map (InChunk k) b) ≡ None → (a ≡ None) × (b ≡ None)
none_split k (Some other) b none = cc
none_split k None (Some q) none = cc
none_split k None None none = (refl, refl)

parts_none : (n k : ℕ) (c : StreamConfig) (h : History) → fate_in_parts n (parts_below c k h) ≡ None → (j : ℕ) → j < k
    → seq_waiting n (chunk_of j h) ≡ None
parts_none n zero c h none j lt = absurd (omega arith)
parts_none n (suc k) c h none j lt =
    let both = none_split k (fate_in_parts n (parts_below c k h)) (seq_waiting n (chunk_of k h)) (sym (fate_in_chunks n k c h) ∙ none) in
    elim (cases_eq j k) [
      | inl same ↦ subst (λ (i : ℕ). seq_waiting n (chunk_of i h) ≡ None) (sym same) both.1
      | inr other ↦ parts_none n k c h both.0 j (omega arith)
    ]

-- a serial that was accepted is in one place
in_one_place : (s : StreamState) (h : History) (n : ℕ) → StandsFor s h → n < s.counters.offered
    → held_times n h.closed + discarded_times n h.closed + times_in n h.filling ≡ 1
in_one_place s h n is below = grind (arith, nat_tests, is.model.serials n, is.offered, times-split n h.closed)

-- a serial whose record is there isn't discarded
record_fate : (s : StreamState) (h : History) (n : ℕ) → StandsFor s h → n < s.counters.offered
    → 0 < held_times n h.closed + count_by (λ (r : Entry). eqb r.serial n) h.filling.records
    → block_fate n h ≡ Some (holder_fate (holder n h.closed) h.filling)
record_fate s h n is below some =
    let one = in_one_place s h n is below in
    let closed : list_any (λ (c : Closed). is_discarded_in n c.block) h.closed ≡ false = none_discarded n h.closed (omega (arith, one)) in
    let filling : is_discarded_in n h.filling ≡ false = grind (arith, one, counts_any (λ (m : ℕ). eqb m n) h.filling.discarded) in
    grind (arith, nat_tests, is.offered, below)

-- found in a chunk
chunk_fate : (s : StreamState) (h : History) (n k q : ℕ) → StandsFor s h → n < s.counters.offered
    → seq_waiting n (chunk_of k h) ≡ Some q → block_fate n h ≡ Some (InChunk k q)
chunk_fate s h n k q is below there =
    let some = found_counts (is_kept_in k) n 0 h.closed q there in
    record_fate s h n is below (omega (arith, some))
    ∙ ap (λ (f : Fate). Some f)
    (found (is_kept_in k) (InChunk k) (kept_tells k) n 0 h.closed h.filling q
    (omega (arith, in_one_place s h n is below)) there)
  where
    kept_tells : (k : ℕ) (st : Status) (q : ℕ) → is_kept_in k st ≡ true → status_fate st q ≡ InChunk k q
    kept_tells k Waiting q e = cc
    kept_tells k Dropped q e = cc
    kept_tells k (Kept j) q e = grind (arith, nat_tests)
    kept_tells k (Cleared c) q e = cc

-- found in the ring
waiting_fate : (s : StreamState) (h : History) (n q : ℕ) → StandsFor s h → n < s.counters.offered
    → seq_waiting n (waiting_of h) ≡ Some q → block_fate n h ≡ Some (InRing q)
waiting_fate s h n q is below there =
    let some = found_counts is_waiting n 0 h.closed q there in
    record_fate s h n is below (omega (arith, some))
    ∙ ap (λ (f : Fate). Some f)
    (found is_waiting InRing tells n 0 h.closed h.filling q (omega (arith, in_one_place s h n is below)) there)
  where
    tells : (st : Status) (q : ℕ) → is_waiting st ≡ true → status_fate st q ≡ InRing q
    tells Waiting q e = refl
    tells Dropped q e = cc
    tells (Kept j) q e = cc
    tells (Cleared c) q e = cc

-- found among the runs
cleared_fate : (s : StreamState) (h : History) (n q : ℕ) → StandsFor s h → n < s.counters.offered
    → seq_waiting n (cleared_of h) ≡ Some q → block_fate n h ≡ Some (fate.Cleared q)
cleared_fate s h n q is below there =
    let some = found_counts is_cleared n 0 h.closed q there in
    record_fate s h n is below (omega (arith, some))
    ∙ ap (λ (f : Fate). Some f)
    (found is_cleared fate.Cleared tells n 0 h.closed h.filling q (omega (arith, in_one_place s h n is below)) there)
  where
    tells : (st : Status) (q : ℕ) → is_cleared st ≡ true → status_fate st q ≡ fate.Cleared q
    tells Waiting q e = cc
    tells Dropped q e = cc
    tells (Kept j) q e = cc
    tells (Cleared c) q e = refl

filling_fate : (s : StreamState) (h : History) (n : ℕ) → StandsFor s h → n < s.counters.offered
    → has_serial n h.filling.records ≡ true → block_fate n h ≡ Some (InRing h.filling.number)
filling_fate s h n is below has =
    let some = has_counts n h.filling.records has in
    let none : holder n h.closed ≡ None = none_holds n h.closed (omega (arith, in_one_place s h n is below, some)) in
    record_fate s h n is below (omega (arith, some)) ∙ ap (λ (c : Option Closed). Some (holder_fate c h.filling)) none

-- what the search doesn't find
pub record IsNotHeld (n : ℕ) (h : History) : Type 0 where
  pub discarded : NotFound n h.cuts 0 h.closed
  pub filling : has_serial n h.filling.records ≡ false

overwritten_fate : (s : StreamState) (h : History) (n : ℕ) → StandsFor s h → n < s.counters.offered → IsNotHeld n h
    → s.ring.discarded ≡ 0 → block_fate n h ≡ Some Overwritten
overwritten_fate s h n is below not never =
    let discarded : discarded_of h ≡ 0 = sym is.discarded ∙ never in
    let none = discarded_in_counts n h.closed (omega (arith, discarded)) in
    let few = count_by-le-length (λ (m : ℕ). eqb m n) h.filling.discarded in
    let absent = hasn't_count n h.filling.records not.filling in
    let some : 0 < held_times n h.closed = omega (arith, in_one_place s h n is below, none, few, discarded, absent) in
    record_fate s h n is below (omega (arith, some)) ∙ ap (λ (f : Fate). Some f) (dropped_fate n h.cuts 0 h.closed h.filling not.discarded some)

discarded_fate : (s : StreamState) (h : History) (n : ℕ) → StandsFor s h → n < s.counters.offered → IsNotHeld n h
    → s.counters.overwritten ≡ 0 → block_fate n h ≡ Some Discarded
discarded_fate s h n is below not never =
    let none = none_held n h.cuts 0 h.closed not.discarded (sym is.overwritten ∙ never) in
    let absent = hasn't_count n h.filling.records not.filling in
    let one = in_one_place s h n is below in
    grind (arith, nat_tests, is.offered, below, one, none, absent, some_discarded n h.closed, counts_none (λ (m : ℕ). eqb m n) h.filling.discarded)

loss_fate : (s : StreamState) (h : History) (n : ℕ) (m : Mode) → s.config.mode ≡ m → StandsFor s h → LosesByMode s
    → n < s.counters.offered → IsNotHeld n h → block_fate n h ≡ Some (loss_of m)
loss_fate s h n mode.Discard e is losses below not = discarded_fate s h n is below not (losses.discarding e).0
loss_fate s h n mode.Overwrite e is losses below not = overwritten_fate s h n is below not (losses.overwriting e)

-- the parts of a stream are the chunks up to its cuts
pub parts-are : (s : StreamState) (h : History) → StandsFor s h → all_parts s.parts ≡ parts_below s.config (suc h.cuts) h
parts-are s h is =
    let a = is.closed in
    let b : s.parts.current ≡ closed_part s.config h.cuts h = is.current ∙ sym (current-held s.config h is.model) in
    ap₂ (λ (ps : List PartState) (p : PartState). ps ++ p ∷ []) a b

-- by where the record is found
by_place : (s : StreamState) (h : History) (n : ℕ) (part : Option Fate) (gone waits : Option ℕ) (fills : Bool) → StandsFor s h
    → LosesByMode s → n < s.counters.offered → fate_in_parts n (parts_below s.config (suc h.cuts) h) ≡ part
    → seq_waiting n (cleared_of h) ≡ gone → seq_waiting n (waiting_of h) ≡ waits → has_serial n h.filling.records ≡ fills
    → Some (unwrap_or (option_or part (option_or (option_map fate.Cleared gone)
    (option_map InRing (option_or waits (cond fills (Some h.filling.number) None)))))
    (loss_of s.config.mode)) ≡ block_fate n h
by_place s h n (Some found_at) cleared waits fills is losses below a g b c =
    let at = parts_found n (suc h.cuts) s.config h found_at a in
    sym (chunk_fate s h n at.0 at.1 is below at.2 ∙ ap (λ (f : Fate). Some f) (sym at.3))
by_place s h n None (Some q) waits fills is losses below a g b c = sym (cleared_fate s h n q is below g)
by_place s h n None None (Some q) fills is losses below a g b c = sym (waiting_fate s h n q is below b)
by_place s h n None None None true is losses below a g b c = sym (filling_fate s h n is below c)
by_place s h n None None None false is losses below a g b c = sym (loss_fate s h n s.config.mode refl is losses below (record {
  discarded = record {
    within = is.model.kept;
    waiting = b;
    cleared = g;
    kept = λ k le. parts_none n (suc h.cuts) s.config h a k (omega arith);
  };
  filling = c;
}))

accepted_fate : (s : StreamState) (h : History) (n : ℕ) → StandsFor s h → LosesByMode s → n < s.counters.offered
    → Some (unwrap_or (held_fate n s) (loss_of s.config.mode)) ≡ block_fate n h
accepted_fate s h n is losses below =
    let gone : seq_in_runs n s.parts.cleared ≡ seq_waiting n (cleared_of h) =
    ap (seq_in_runs n) is.runs ∙ runs-have n (cleared_of h) in
    rw (parts-are s h is, gone, is.waiting, is.filling, is.number)
    (by_place s h n (fate_in_parts n (parts_below s.config (suc h.cuts) h)) (seq_waiting n (cleared_of h))
    (seq_waiting n (waiting_of h)) (has_serial n h.filling.records) is losses below refl refl refl refl)

-- a serial's fate is the history's, if it isn't forgotten
found-fates : (s : StreamState) (h : History) (n : ℕ) → StandsFor s h → LosesByMode s → found_fate n s ≡ block_fate n h
found-fates s h n is losses = by_test (nat_lt n s.counters.offered) refl
  where
    by_test : (b : Bool) → nat_lt n s.counters.offered ≡ b → found_fate n s ≡ block_fate n h
    by_test true below = rw below (accepted_fate s h n is losses (grind (arith, nat_tests, below)))
    by_test false above = grind (arith, nat_tests, is.offered, above)

pub fates : (s : StreamState) (h : History) (n : ℕ) → StandsFor s h → LosesByMode s → state_fate n s ≡ history_fate n h
fates s h n is losses =
    let from : known_from s.parts ≡ begun_at h.forgotten h.starts = ap₂ begun_at is.forgotten is.starts in
    ap₂ (λ (m : ℕ) (f : Option Fate). fate_unless (nat_lt n m) f) from (found-fates s h n is losses)

-- before the first part that isn't forgotten all is
pub forgotten-fate : (n : ℕ) (s : StreamState) → n < s.counters.offered → n < known_from s.parts → Some Forgotten ≡ state_fate n s
forgotten-fate n s below before =
    let accepted : nat_lt n s.counters.offered ≡ true = grind (arith, nat_tests, below) in
    let gone : nat_lt n (known_from s.parts) ≡ true = grind (arith, nat_tests, before) in
    sym (ap₂ (λ (b a : Bool). fate_unless b (cond a (Some (unwrap_or (held_fate n s) (loss_of s.config.mode))) None)) gone accepted)

-- since then what is found
pub known-fate : (n : ℕ) (s : StreamState) (f : Fate) → n < s.counters.offered → known_from s.parts ≤ n
    → unwrap_or (held_fate n s) (loss_of s.config.mode) ≡ f → Some f ≡ state_fate n s
known-fate n s f below since is =
    let accepted : nat_lt n s.counters.offered ≡ true = grind (arith, nat_tests, below) in
    let known : nat_lt n (known_from s.parts) ≡ false = grind (arith, nat_tests, since) in
    sym (ap₂ (λ (b a : Bool). fate_unless b (cond a (Some (unwrap_or (held_fate n s) (loss_of s.config.mode))) None)) known accepted
    ∙ ap (λ (g : Fate). Some g) is)

-- what the search among the parts finds comes first, then the runs, then the ring
pub held-part : (n : ℕ) (s : StreamState) (fate : Fate) → fate_in_parts n (all_parts s.parts) ≡ Some fate → Some fate ≡ held_fate n s
held-part n s fate there = rw there refl

pub held-gone : (n : ℕ) (s : StreamState) (q : ℕ) → fate_in_parts n (all_parts s.parts) ≡ None
    → seq_in_runs n s.parts.cleared ≡ Some q → Some (fate.Cleared q) ≡ held_fate n s
held-gone n s q none there = rw (none, there) refl

pub held-ring : (n : ℕ) (s : StreamState) (q : Option ℕ) → fate_in_parts n (all_parts s.parts) ≡ None
    → seq_in_runs n s.parts.cleared ≡ None → seq_of n s.ring ≡ q → option_map InRing q ≡ held_fate n s
held-ring n s q none gone there = rw (none, gone, there) refl

-- a kept value loses records as its mode says
pub losses-of : (s t : StreamState) → t ≡ s → IsKept t → LosesByMode s
losses-of s t same is = subst (λ (u : StreamState). LosesByMode u) same is.sound.losses
