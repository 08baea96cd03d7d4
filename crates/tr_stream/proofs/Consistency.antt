-- A stream that stands for a history is consistent.
use Rattle.std.proofs.Common.{◌≡◌, ◌≢◌, ℕ, ◌+◌, ◌≤◌, ◌<◌, zero, suc, Bool, true, false, cond, eqb, List, [], ◌∷◌, ◌++◌, length, map, refl, sym, ◌∙◌, ap, subst, arith, length-append}
use Rattle.std.proofs.lemmas.Bool.Decides.{nat_tests}
use Rattle.std.proofs.lemmas.Grind.{common_steps}
use Rattle.std.proofs.lemmas.List.{append-nil, length-map}
use Rattle.std.proofs.lemmas.List.Sums.{sum_by-cons}
use Rattle.std.specs.List.{AllByRecursion}
use Rattle.std.specs.Prelude.{sum_by}
use Rattle.tr_book.specs.Parts.{PartState, PartsState, no_parts}
use Rattle.tr_book.specs.Runs.{RunsRise, run_of, runs_of, runs_on}
use Rattle.tr_record.specs.Records.{Entry}
use Rattle.tr_ring.specs.ClosedBuffer.{ClosedBuffer}
use Rattle.tr_book.specs.declared.runs.Run.{Run}
use Rattle.tr_stream.proofs.GoneLemmas.{runs-count}
use Rattle.tr_stream.proofs.ChunkLemmas.{records-of_buffers, discarded_in-cons, blocks_where-cons}
use Rattle.tr_stream.proofs.FateLemmas.{parts-are}
use Rattle.tr_stream.proofs.PieceLemmas.{here, is_undropped, parts-left, held-is, pieces-buffers, pieces-cleared, pieces-held, pieces-used, pieces_of, undropped_of}
use Rattle.tr_stream.proofs.TakeLemmas.{length-parts_below}
use Rattle.tr_ring.specs.Ring.{seq_after}
use Rattle.tr_stream.specs.Chunks.{buffer_runs, cleared_of, closed_if_any, buffer_of, buffers_where, chunk_of, kept_of, parts_below, closed_part, packet_of}
use Rattle.tr_stream.specs.Consistent.{HasRecord, Piece, buffers_of, Rising, CountUp, PartsFrom, first_in, first_serial, DiscardsAgree, SerialsFollow, GapsAgree, IsConsistent}
use Rattle.tr_stream.specs.History.{Status, Waiting, Dropped, Kept, Cleared, Closed, History, is_waiting, is_dropped, is_cleared, offers_in, offers_before, offered_of, discarded_in, discarded_of, blocks_where, is_released}
use Rattle.tr_stream.specs.Kept.{IsKept}
use Rattle.tr_stream.specs.Sound.{LosesByMode}
use Rattle.tr_stream.specs.StandsFor.{StandsFor}
use Rattle.tr_stream.specs.State.{StreamState, in_parts}
use Rattle.tr_stream.specs.WellFormed.{IsWellFormed, NumberedFrom, AllWait, WaitLast, RecordsRise, next_serial, StartsAt, Covers, CoversFrom, AllUsed, LastHeld}
use Rattle.tr_stream.specs.declared.config.StreamConfig.{StreamConfig}
use Rattle.tr_terms.specs.declared.session_mode.SessionMode.TheVariants.{Snapshot}
use Rattle.tr_stream.proofs.ReleaseForms.{if-id}

-- parts have the numbers of their chunks
parts_from : (c : StreamConfig) (k : ℕ) (h : History) → PartsFrom 0 (parts_below c k h)
parts_from c zero h = tt
parts_from c (suc k) h = parts-push 0 (parts_below c k h) (closed_part c k h) (parts_from c k h)
    (let e = length-parts_below c k h in
    omega (arith, e, if-id (is_released k h) k (map (packet_of c) (chunk_of k h))))
  where
    parts-push : (n : ℕ) (ps : List PartState) (p : PartState) → PartsFrom n ps → p.id ≡ n + length ps → PartsFrom n (ps ++ p ∷ [])
    parts-push n [] p old new = (grind (arith, common_steps, new), tt)
    parts-push n (q ∷ ps) p old new = (old.0, parts-push (n + 1) ps p old.1 (grind (arith, common_steps, new)))

offers_before-cons : (c : Closed) (cs : List Closed) → offers_before (c ∷ cs) ≡ offers_in c.block + offers_before cs
offers_before-cons c cs = sum_by-cons (λ (c : Closed). offers_in c.block) c cs

-- lower bounds may fall
pub RecordsRise-lower : (low low' : ℕ) (rs : List Entry) → low' ≤ low → RecordsRise low rs → RecordsRise low' rs
RecordsRise-lower low low' [] le rise = tt
RecordsRise-lower low low' (r ∷ rs) le rise = (omega (arith, rise.0), rise.1)

pub next_serial-lower : (low low' : ℕ) (rs : List Entry) → low' ≤ low → next_serial low' rs ≤ next_serial low rs
next_serial-lower low low' [] le = le
next_serial-lower low low' (r ∷ rs) le = omega arith

rising-one : (wanted : Bool) (number serial : ℕ) (p : ClosedBuffer) (ps : List ClosedBuffer) (next_number next : ℕ)
    → number ≤ p.seq → RecordsRise serial p.records
    → ((n m : ℕ) → n ≤ p.seq + 1 → m ≤ next_serial serial p.records → Rising n m ps next_number next)
    → Rising number serial ps next_number next → Rising number serial (cond wanted (p ∷ ps) ps) next_number next
rising-one true number serial p ps next_number next a b with_it without =
    (a, b, with_it (p.seq + 1) (next_serial serial p.records) (omega arith) (omega arith))
rising-one false number serial p ps next_number next a b with_it without = without

-- the packets of some blocks rise
pub rising-where : (wanted : Status → Bool) (number serial low place discarded : ℕ) (cs : List Closed)
    (next_number next : ℕ) → NumberedFrom place cs → CoversFrom low cs → number ≤ place → serial ≤ low
    → place + length cs ≤ next_number → low + offers_before cs ≤ next
    → Rising number serial (buffers_where wanted discarded cs) next_number next
rising-where wanted number serial low place discarded [] next_number next numbers covers le le' few few' = (omega arith, omega arith)
rising-where wanted number serial low place discarded (c ∷ cs) next_number next numbers covers le le' few few' =
    let count : length (c ∷ cs) ≡ length cs + 1 = grind (arith, common_steps) in
    let sum = offers_before-cons c cs in
    let after = λ (n m : ℕ) (a : n ≤ place + 1) (b : m ≤ low + offers_in c.block). rising-where wanted n m
    (low + offers_in c.block) (place + 1) (discarded + length c.block.discarded) cs next_number next numbers.1 covers.1
    a b (omega (arith, count)) (omega (arith, sum)) in
    rising-one (wanted c.status) number serial (buffer_of discarded c)
    (buffers_where wanted (discarded + length c.block.discarded) cs) next_number next (omega (arith, numbers.0))
    (RecordsRise-lower low serial c.block.records le' covers.0.rise)
    (λ n m a b. after n m (omega (arith, numbers.0)) (omega (arith, next_serial-lower low serial c.block.records le', covers.0.within)))
    (after number serial (omega arith) (omega arith))

pub rising-append : (number serial : ℕ) (ps qs : List ClosedBuffer) (mid_number mid next_number next : ℕ)
    → Rising number serial ps mid_number mid → ((n m : ℕ) → n ≤ mid_number → m ≤ mid → Rising n m qs next_number next)
    → Rising number serial (ps ++ qs) next_number next
rising-append number serial [] qs mid_number mid next_number next before after = after number serial before.0 before.1
rising-append number serial (p ∷ ps) qs mid_number mid next_number next before after = (
  before.0,
  before.1,
  rising-append (p.seq + 1) (next_serial serial p.records) ps qs mid_number mid next_number next
      before.2 after,
)

pub rising-last : (number serial place end discarded low next : ℕ) (rs : List Entry) → number ≤ place → serial ≤ low
    → RecordsRise low rs → next_serial low rs ≤ next
    → Rising number serial (closed_if_any place end discarded rs) (seq_after place rs) next
rising-last number serial place end discarded low next [] le le' rise few = (le, omega arith)
rising-last number serial place end discarded low next (r ∷ rs) le le' rise few = (
  le,
  RecordsRise-lower low serial (r ∷ rs) le' rise,
  (omega arith, omega (arith, next_serial-lower low serial (r ∷ rs) le')),
)

rising-held : (h : History) (end : ℕ) → IsWellFormed h → Rising 0 0 (undropped_of end h) (seq_after h.filling.number h.filling.records) (offered_of h)
rising-held h end is =
    rising-append 0 0 (buffers_where is_undropped 0 h.closed)
    (closed_if_any h.filling.number end (discarded_of h) h.filling.records) (length h.closed) (offers_before h.closed)
    (seq_after h.filling.number h.filling.records) (offered_of h)
    (rising-where is_undropped 0 0 0 0 0 h.closed (length h.closed) (offers_before h.closed) is.numbers is.covers (omega arith)
    (omega arith) (omega arith) (omega arith))
    (λ n m a b. rising-last n m h.filling.number end (discarded_of h) (offers_before h.closed) (offered_of h)
    h.filling.records (omega (arith, is.filling)) b is.covers_filling.rise is.covers_filling.within)

-- those that wait are the last
all_count_up : (place discarded : ℕ) (cs : List Closed) → NumberedFrom place cs → AllWait cs
    → CountUp place (buffers_where is_waiting discarded cs) × (length (buffers_where is_waiting discarded cs) ≡ length cs)
all_count_up place discarded [] numbers wait = (tt, refl)
all_count_up place discarded (c ∷ cs) numbers wait =
    grind (arith, common_steps, all_count_up (place + 1) (discarded + length c.block.discarded) cs numbers.1 wait.1)

-- packets that end below this number, one after another
pub record EndsAt (ps : List ClosedBuffer) (next : ℕ) : Type 0 where
  pub from : ℕ
  pub counts : CountUp from ps
  pub ends : from + length ps ≡ next

count_up_split : (place discarded : ℕ) (c : Closed) (cs : List Closed) → NumberedFrom place (c ∷ cs) → WaitLast (c ∷ cs)
    → EndsAt (buffers_where is_waiting (discarded + length c.block.discarded) cs) (place + 1 + length cs) → (b : Bool)
    → is_waiting c.status ≡ b → EndsAt (buffers_where is_waiting discarded (c ∷ cs)) (place + length (c ∷ cs))
count_up_split place discarded c cs numbers order rest true waits =
    let all = all_count_up place discarded (c ∷ cs) numbers (waits, order.0 waits) in
    record { from = place; counts = all.0; ends = omega (arith, all.1) }
count_up_split place discarded c cs numbers order rest false waits =
    record { from = rest.from; counts = grind (arith, common_steps, waits, rest.counts); ends = grind (arith, common_steps, waits, rest.ends) }

waiting_count_up : (place discarded : ℕ) (cs : List Closed) → NumberedFrom place cs → WaitLast cs
    → EndsAt (buffers_where is_waiting discarded cs) (place + length cs)
waiting_count_up place discarded [] numbers order = record { from = place; counts = tt; ends = refl }
waiting_count_up place discarded (c ∷ cs) numbers order =
    count_up_split place discarded c cs numbers order
    (waiting_count_up (place + 1) (discarded + length c.block.discarded) cs numbers.1 order.1) (is_waiting c.status)
    refl

-- blocks are held or dropped
pub held_or_dropped : (discarded : ℕ) (cs : List Closed) → length (buffers_where is_undropped discarded cs) + blocks_where is_dropped cs ≡ length cs
held_or_dropped discarded [] = refl
held_or_dropped discarded (c ∷ cs) =
    grind (
      arith,
      common_steps,
      held_or_dropped (discarded + length c.block.discarded) cs,
      blocks_where-cons is_dropped c cs,
    )

-- numbers go on if none was dropped
count_up_held : (place discarded : ℕ) (cs : List Closed) (qs : List ClosedBuffer) → blocks_where is_dropped cs ≡ 0
    → NumberedFrom place cs → CountUp (place + length cs) qs → CountUp place (buffers_where is_undropped discarded cs ++ qs)
count_up_held place discarded [] qs none numbers rest = subst (λ (n : ℕ). CountUp n qs) (omega arith) rest
count_up_held place discarded (c ∷ cs) qs none numbers rest =
    let more = λ (r : CountUp (place + 1 + length cs) qs). count_up_held (place + 1) (discarded + length c.block.discarded)
    cs qs (grind (arith, none, blocks_where-cons is_dropped c cs)) numbers.1 r in
    let e : place + length (c ∷ cs) ≡ place + 1 + length cs = grind (arith, common_steps) in
    let rest' = more (subst (λ (n : ℕ). CountUp n qs) e rest) in
    grind (arith, none, blocks_where-cons is_dropped c cs, numbers.0, rest')

first-starts : (low next : ℕ) (rs : List Entry) (discarded : List ℕ) → rs ≢ [] → StartsAt low rs discarded → first_in rs next ≡ low
first-starts low next [] discarded used starts = absurd (used refl)
first-starts low next (r ∷ rs) discarded used starts = starts

-- the first serial, if none was dropped
first_held : (low discarded next : ℕ) (cs : List Closed) (qs : List ClosedBuffer) → blocks_where is_dropped cs ≡ 0
    → AllUsed cs → CoversFrom low cs → first_serial qs next ≡ low + offers_before cs
    → first_serial (buffers_where is_undropped discarded cs ++ qs) next ≡ low
first_held low discarded next [] qs none used covers rest = omega (arith, rest)
first_held low discarded next (c ∷ cs) qs none used covers rest =
    grind (
      arith,
      none,
      blocks_where-cons is_dropped c cs,
      first-starts low next c.block.records c.block.discarded used.0 covers.0.starts,
    )

discards_step : (wanted : Bool) (seen next : ℕ) (p : ClosedBuffer) (ps : List ClosedBuffer) → wanted ≡ true
    → p.discarded + (seen + length p.records) ≡ first_serial ps next → DiscardsAgree (seen + length p.records) ps next
    → DiscardsAgree seen (cond wanted (p ∷ ps) ps) next
discards_step true seen next p ps e a b = (a, b)
discards_step false seen next p ps e a b = cc

held-undropped : (st : Status) → is_dropped st ≡ false → is_undropped st ≡ true
held-undropped Waiting e = refl
held-undropped Dropped e = cc
held-undropped (Kept k) e = refl
held-undropped (Cleared c) e = refl

-- what is discarded, if none was dropped
discards_held : (low discarded seen next : ℕ) (cs : List Closed) (qs : List ClosedBuffer) → blocks_where is_dropped cs ≡ 0
    → AllUsed cs → CoversFrom low cs → seen + discarded ≡ low → first_serial qs next ≡ low + offers_before cs
    → ((m : ℕ) → m + (discarded + discarded_in cs) ≡ low + offers_before cs → DiscardsAgree m qs next)
    → DiscardsAgree seen (buffers_where is_undropped discarded cs ++ qs) next
discards_held low discarded seen next [] qs none used covers sum first rest = rest seen (omega (arith, sum))
discards_held low discarded seen next (c ∷ cs) qs none used covers sum first rest =
    let low' = low + offers_in c.block in
    let discarded' = discarded + length c.block.discarded in
    let none' : blocks_where is_dropped cs ≡ 0 = grind (arith, none, blocks_where-cons is_dropped c cs) in
    let undropped : is_dropped c.status ≡ false = grind (arith, none, blocks_where-cons is_dropped c cs) in
    let offers = offers_before-cons c cs in
    let discards = discarded_in-cons c cs in
    let first' : first_serial qs next ≡ low' + offers_before cs = omega (arith, first, offers) in
    let starts = first_held low' discarded' next cs qs none' used.1 covers.1 first' in
    let later = discards_held low' discarded' (seen + length c.block.records) next cs qs none' used.1 covers.1
    (omega (arith, sum)) first' (λ m e. rest m (omega (arith, e, offers, discards))) in
    let held = held-undropped c.status undropped in
    let whole = discards_step true seen next (buffer_of discarded c) (buffers_where is_undropped discarded' cs ++ qs) refl
    (omega (arith, sum, starts)) later in
    grind (arith, held, whole)

discard-held : (h : History) (end : ℕ) → IsWellFormed h → blocks_where is_dropped h.closed ≡ 0
    → CountUp 0 (undropped_of end h) × DiscardsAgree 0 (undropped_of end h) (offered_of h)
discard-held h end is none = (
  count_up_held 0 0 h.closed last none is.numbers (last_counts h.filling.records),
  discards_held 0 0 0 (offered_of h) h.closed last none is.used is.covers refl
      (last_first h.filling.records h.filling.discarded refl refl is.covers_filling.starts)
      (λ m e. last_lost m h.filling.records refl (omega (arith, e))),
)
  where
    last : List ClosedBuffer
    last = closed_if_any h.filling.number end (discarded_of h) h.filling.records

    last_counts : (rs : List Entry) → CountUp (0 + length h.closed) (closed_if_any h.filling.number end (discarded_of h) rs)
    last_counts [] = tt
    last_counts (r ∷ rs) = (omega (arith, is.filling), tt)

    last_first : (rs : List Entry) (ms : List ℕ) → h.filling.records ≡ rs → h.filling.discarded ≡ ms
        → StartsAt (offers_before h.closed) rs ms
        → first_serial (closed_if_any h.filling.number end (discarded_of h) rs) (offered_of h) ≡ 0 + offers_before h.closed
    last_first [] ms e f starts = let a : length h.filling.records ≡ 0 =
        ap length e in let b : length h.filling.discarded ≡ 0 = ap length (f ∙ starts) in omega (arith, a, b)
    last_first (r ∷ rs) ms e f starts = omega (arith, starts)

    last_lost : (m : ℕ) (rs : List Entry) → h.filling.records ≡ rs → m + discarded_in h.closed ≡ offers_before h.closed
        → DiscardsAgree m (closed_if_any h.filling.number end (discarded_of h) rs) (offered_of h)
    last_lost m [] f e = tt
    last_lost m (r ∷ rs) f e = let g : length h.filling.records ≡ length (r ∷ rs) = ap length f in (omega (arith, e, g), tt)

next_serial-high : (low : ℕ) (rs : List Entry) → RecordsRise low rs → low + length rs ≤ next_serial low rs
next_serial-high low [] rise = omega arith
next_serial-high low (r ∷ rs) rise = let count : length (r ∷ rs) ≡ length rs + 1 =
    grind (arith, common_steps) in omega (arith, count, next_serial-high (r.serial + 1) rs rise.1, rise.0)

-- serials that rise and leave no room follow each other
pub serials_follow : (low : ℕ) (rs : List Entry) → RecordsRise low rs → next_serial low rs ≤ low + length rs → SerialsFollow low rs
serials_follow low [] rise few = tt
serials_follow low (r ∷ rs) rise few =
    let count : length (r ∷ rs) ≡ length rs + 1 = grind (arith, common_steps) in
    let high = next_serial-high (r.serial + 1) rs rise.1 in
    let here : r.serial ≡ low = omega (arith, count, high, rise.0) in
    (here, subst (λ (n : ℕ). SerialsFollow (n + 1) rs) here (serials_follow (r.serial + 1) rs rise.1 (omega (arith, count, here))))

next_serial-used : (low low' : ℕ) (rs : List Entry) → rs ≢ [] → next_serial low rs ≡ next_serial low' rs
next_serial-used low low' [] used = absurd (used refl)
next_serial-used low low' (r ∷ rs) used = refl

-- how far the walk over packets has come: after the block, or at it
abbrev Behind : (number serial place low : ℕ) → Type 0
Behind number serial place low = (number ≤ place) × (serial ≤ low) × (place ≡ number → low ≡ serial) × (low ≡ serial → place ≡ number)

gap_step : (wanted : Bool) (number serial place low : ℕ) (c : Closed) (ps : List ClosedBuffer) (next_seq next : ℕ)
    → c.block.number ≡ place → Covers low c.block → c.block.discarded ≡ [] → c.block.records ≢ []
    → Behind number serial place low → GapsAgree (place + 1) (low + offers_in c.block) ps next_seq next
    → (wanted ≡ false → Behind number serial (place + 1) (low + offers_in c.block)
    → GapsAgree number serial ps next_seq next)
    → GapsAgree number serial (cond wanted (buffer_of 0 c ∷ ps) ps) next_seq next
gap_step true number serial place low c ps next_seq next here covers never used behind held dropped =
    let none : length c.block.discarded ≡ 0 = ap length never in
    let first : first_in c.block.records next ≡ low = first-starts low next c.block.records c.block.discarded used covers.starts in
    let high = next_serial-high low c.block.records covers.rise in
    let next' : next_serial serial c.block.records ≡ low + offers_in c.block =
    next_serial-used serial low c.block.records used ∙ omega (arith, high, covers.within, none) in (
      omega (arith, none),
      subst (λ (n : ℕ). SerialsFollow n c.block.records) (sym first)
          (serials_follow low c.block.records covers.rise (omega (arith, covers.within, none))),
      ((λ e. first ∙ behind.2 (sym here ∙ e)), (λ e. here ∙ behind.3 (sym first ∙ e))),
      subst (λ (m : ℕ). GapsAgree (c.block.number + 1) m ps next_seq next) (sym next')
          (subst (λ (n : ℕ). GapsAgree (n + 1) (low + offers_in c.block) ps next_seq next) (sym here) held),
    )
gap_step false number serial place low c ps next_seq next here covers never used behind held dropped =
    let some : 0 < length c.block.records = positive c.block.records used in
    dropped refl (
      omega (arith, behind.0),
      omega (arith, behind.1),
      (λ e. absurd (omega (arith, e, behind.0))),
      (λ e. absurd (omega (arith, e, behind.1, some))),
    )
  where
    positive : (rs : List Entry) → rs ≢ [] → 0 < length rs
    positive [] used = absurd (used refl)
    positive (r ∷ rs) used = grind (arith, common_steps)

no_discarded : {X : Type 0} (xs : List X) → length xs ≡ 0 → xs ≡ []
no_discarded [] e = refl
no_discarded (x ∷ xs) e = absurd (let f : length (x ∷ xs) ≡ length xs + 1 = grind (arith, common_steps) in omega (arith, e, f))

gaps_held : (number serial place low : ℕ) (cs : List Closed) (qs : List ClosedBuffer) (next_seq next : ℕ)
    → discarded_in cs ≡ 0 → NumberedFrom place cs → AllUsed cs → CoversFrom low cs → Behind number serial place low
    → ((n m : ℕ) → Behind n m (place + length cs) (low + offers_before cs) → GapsAgree n m qs next_seq next)
    → GapsAgree number serial (buffers_where is_undropped 0 cs ++ qs) next_seq next
gaps_held number serial place low [] qs next_seq next never numbers used covers behind rest =
    rest number serial (subst (λ (p : ℕ × ℕ). Behind number serial p.0 p.1) (pair (omega arith) (omega arith)) behind)
  where
    pair : {a b c d : ℕ} → a ≡ b → c ≡ d → (let p : ℕ × ℕ = (a, c) in p) ≡ (b, d)
    pair e f = cc
gaps_held number serial place low (c ∷ cs) qs next_seq next never numbers used covers behind rest =
    let discards = discarded_in-cons c cs in
    let never' : c.block.discarded ≡ [] = no_discarded c.block.discarded (omega (arith, never, discards)) in
    let none : length c.block.discarded ≡ 0 = omega (arith, never, discards) in
    let count : place + length (c ∷ cs) ≡ place + 1 + length cs = grind (arith, common_steps) in
    let sum : low + offers_before (c ∷ cs) ≡ low + offers_in c.block + offers_before cs = omega (arith, offers_before-cons c cs) in
    let rest' = λ (n m : ℕ) (b : Behind n m (place + 1 + length cs) (low + offers_in c.block + offers_before cs)). rest n m
    (subst (λ (k : ℕ). Behind n m k (low + offers_before (c ∷ cs))) (sym count)
    (subst (λ (k : ℕ). Behind n m (place + 1 + length cs) k) (sym sum) b)) in
    let more = λ (n m : ℕ) (b : Behind n m (place + 1) (low + offers_in c.block)). gaps_held n m (place + 1)
    (low + offers_in c.block) cs qs next_seq next (omega (arith, never, discards)) numbers.1 used.1 covers.1 b rest' in
    let step = gap_step (is_undropped c.status) number serial place low c (buffers_where is_undropped 0 cs ++ qs) next_seq next
    numbers.0 covers.0 never' used.0 behind
    (more (place + 1) (low + offers_in c.block) (omega arith, omega arith, (λ e. refl), (λ e. refl)))
    (λ e b. more number serial b) in
    grind (arith, none, step)

held-not_dropped : (st : Status) → is_undropped st ≡ false → is_dropped st ≡ true
held-not_dropped Waiting e = cc
held-not_dropped Dropped e = refl
held-not_dropped (Kept k) e = cc
held-not_dropped (Cleared c) e = cc

-- if nothing is filling, nothing is absent after the last
gaps_ended : (number serial place low : ℕ) (cs : List Closed) (next_seq next : ℕ) → discarded_in cs ≡ 0
    → NumberedFrom place cs → AllUsed cs → CoversFrom low cs → LastHeld cs → Behind number serial place low
    → (cs ≡ [] → serial ≡ low) → next_seq ≡ place + length cs → next ≡ low + offers_before cs
    → GapsAgree number serial (buffers_where is_undropped 0 cs) next_seq next
gaps_ended number serial place low [] next_seq next never numbers used covers ends behind at places sum =
    (omega (arith, behind.3 (sym (at refl)), places), at refl ∙ omega (arith, sum))
gaps_ended number serial place low (c ∷ cs) next_seq next never numbers used covers ends behind at places sum =
    let count : place + length (c ∷ cs) ≡ place + 1 + length cs = grind (arith, common_steps) in
    let discards = discarded_in-cons c cs in
    let never' : c.block.discarded ≡ [] = no_discarded c.block.discarded (omega (arith, never, discards)) in
    let none : length c.block.discarded ≡ 0 = omega (arith, never, discards) in
    let sum' : next ≡ low + offers_in c.block + offers_before cs = omega (arith, sum, offers_before-cons c cs) in
    let more = λ (n m : ℕ) (b : Behind n m (place + 1) (low + offers_in c.block)) (at' : cs ≡ [] → m ≡ low + offers_in c.block).
    gaps_ended n m (place + 1) (low + offers_in c.block) cs next_seq next (omega (arith, never, discards)) numbers.1
    used.1 covers.1 (tail_held c cs ends) b at' (places ∙ count) sum' in
    let step = gap_step (is_undropped c.status) number serial place low c (buffers_where is_undropped 0 cs) next_seq next numbers.0
    covers.0 never' used.0 behind
    (more (place + 1) (low + offers_in c.block) (omega arith, omega arith, (λ e. refl), (λ e. refl)) (λ e. refl))
    (λ e b. more number serial b (λ f. absurd (only_held c cs f ends (held-not_dropped c.status e)))) in
    grind (arith, none, step)
  where
    tail_held : (c : Closed) (cs : List Closed) → LastHeld (c ∷ cs) → LastHeld cs
    tail_held c [] ends = tt
    tail_held c (d ∷ ds) ends = ends

    only_held : (c : Closed) (cs : List Closed) → cs ≡ [] → LastHeld (c ∷ cs) → is_dropped c.status ≡ true → ⊥
    only_held c [] f ends dropped = cc
    only_held c (d ∷ ds) f ends dropped = cc

not_nil : {X : Type 0} (x : X) (xs : List X) → x ∷ xs ≢ []
not_nil x xs f = cc

overwrite-held : (h : History) (end : ℕ) → IsWellFormed h → discarded_of h ≡ 0
    → GapsAgree 0 0 (undropped_of end h) (seq_after h.filling.number h.filling.records) (offered_of h)
overwrite-held h end is never = last_gaps h.filling.records refl
  where
    start : Behind 0 0 0 0
    start = (omega arith, omega arith, (λ e. refl), (λ e. refl))

    behind_last : (n m : ℕ) (rs : List Entry) → h.filling.records ≡ rs
        → Behind n m (0 + length h.closed) (0 + offers_before h.closed) → rs ≢ []
        → GapsAgree n m (closed_if_any h.filling.number end (discarded_of h) rs) (seq_after h.filling.number rs)
        (offered_of h)
    behind_last n m [] e b some = absurd (some refl)
    behind_last n m (r ∷ rs) e b some =
        let covers : Covers (offers_before h.closed) (record h.filling { records = r ∷ rs }) =
        subst (λ (q : List Entry). Covers (offers_before h.closed) (record h.filling { records = q })) e
        is.covers_filling in
        let first : r.serial ≡ offers_before h.closed = covers.starts in
        let count : length h.filling.records ≡ length (r ∷ rs) = ap length e in
        let few : next_serial (offers_before h.closed) (r ∷ rs) ≤ offers_before h.closed + length (r ∷ rs) = omega (arith, covers.within, never) in
        let high = next_serial-high (offers_before h.closed) (r ∷ rs) covers.rise in
        let follow = serials_follow (offers_before h.closed) (r ∷ rs) covers.rise few in (
          never,
          (refl, subst (λ (k : ℕ). SerialsFollow (k + 1) rs) (sym first) follow.1),
          ((λ e. first ∙ omega (arith, b.2 (omega (arith, e, is.filling)))), (λ e. omega (arith, is.filling, b.3 (omega (arith, e, first))))),
          (refl, omega (arith, high, few, count, never)),
        )

    last_gaps : (rs : List Entry) → h.filling.records ≡ rs
        → GapsAgree 0 0 (buffers_where is_undropped 0 h.closed ++ closed_if_any h.filling.number end (discarded_of h) rs)
        (seq_after h.filling.number rs) (offered_of h)
    last_gaps [] e =
        let none : length h.filling.records ≡ 0 = ap length e in
        subst (λ (ps : List ClosedBuffer). GapsAgree 0 0 ps (seq_after h.filling.number []) (offered_of h))
        (sym (append-nil (buffers_where is_undropped 0 h.closed)))
        (gaps_ended 0 0 0 0 h.closed (seq_after h.filling.number []) (offered_of h) (omega (arith, never)) is.numbers
        is.used is.covers (is.room e) start (λ f. refl) (omega (arith, is.filling)) (omega (arith, none, never)))
    last_gaps (r ∷ rs) e = gaps_held 0 0 0 0 h.closed (closed_if_any h.filling.number end (discarded_of h) (r ∷ rs))
        (seq_after h.filling.number (r ∷ rs)) (offered_of h) (omega (arith, never)) is.numbers is.used is.covers start
        (λ n m b. behind_last n m (r ∷ rs) e b (not_nil r rs))

-- a stream that stands for a history is consistent
pub consistent : (s : StreamState) (h : History) → LosesByMode s → StandsFor s h → IsConsistent s
consistent s h losses is = record {
  pieces = pieces_of s.counters.last h;
  are = record {
    kept = kept_of h;
    left = parts-left s h is;
    held = pieces-held 0 h.closed last_one ∙ sym (held-is s h is);
    cleared = ap buffer_runs (pieces-cleared 0 h.closed last_one) ∙ sym is.runs;
    used = pieces-used 0 h.closed (map here last_one) is.model.used (last-used h.filling.records);
  };
  gone = ap (sum_by (λ (r : Run). r.count)) is.runs ∙ runs-count (cleared_of h)
      ∙ sym (is.cleared ∙ records-of_buffers is_cleared 0 h.closed);
  rising = subst (λ (ps : List ClosedBuffer). Rising 0 0 ps (seq_after s.ring.seq s.ring.current) s.counters.offered)
      (sym same) (rw (is.number, is.filling, is.offered) (rising-held h s.counters.last is.model));
  parts = subst (λ (ps : List PartState). PartsFrom 0 ps) (sym (parts-are s h is)) (parts_from s.config (suc h.cuts) h);
  ring = (
    ends.from,
    omega (arith, ap length is.waiting, ends.ends, is.number, is.model.filling),
    subst (λ (ps : List ClosedBuffer). CountUp ends.from ps) (sym is.waiting) ends.counts,
  );
  absent = omega (arith, lengths, is.overwritten_packets, held_or_dropped 0 h.closed, last, is.number, is.model.filling);
  discards = λ e. subst (λ (ps : List ClosedBuffer). CountUp 0 ps × DiscardsAgree 0 ps s.counters.offered) (sym same)
      (subst (λ (n : ℕ). CountUp 0 (undropped_of s.counters.last h) × DiscardsAgree 0 (undropped_of s.counters.last h) n)
      (sym is.offered) (discard-held h s.counters.last is.model (sym is.overwritten_packets ∙ (losses.discarding e).1)));
  overwrites = λ e. subst (λ (ps : List ClosedBuffer). GapsAgree 0 0 ps (seq_after s.ring.seq s.ring.current)
      s.counters.offered) (sym same)
      (rw (is.number, is.filling, is.offered)
      (overwrite-held h s.counters.last is.model (sym is.discarded ∙ losses.overwriting e)));
}
  where
    last_one : List ClosedBuffer
    last_one = closed_if_any h.filling.number s.counters.last (discarded_of h) h.filling.records

    last-used : (rs : List Entry)
        → AllByRecursion HasRecord (map here (closed_if_any h.filling.number s.counters.last (discarded_of h) rs))
    last-used [] = tt
    last-used (r ∷ rs) = (not_nil r rs, tt)

    same : buffers_of (pieces_of s.counters.last h) ≡ undropped_of s.counters.last h
    same = pieces-buffers 0 h.closed last_one

    ends : EndsAt (buffers_where is_waiting 0 h.closed) (0 + length h.closed)
    ends = waiting_count_up 0 0 h.closed is.model.numbers is.model.order

    lengths : length (pieces_of s.counters.last h) ≡ length (buffers_where is_undropped 0 h.closed) + length last_one
    lengths = sym (length-map (pieces_of s.counters.last h) (λ (p : Piece). p.buffer)) ∙ ap length same
        ∙ length-append (buffers_where is_undropped 0 h.closed) last_one

    one_more : (number end discarded : ℕ) (rs : List Entry) → number + length (closed_if_any number end discarded rs) ≡ seq_after number rs
    one_more number end discarded [] = omega arith
    one_more number end discarded (r ∷ rs) = grind (arith, common_steps)

    last : h.filling.number + length last_one ≡ seq_after s.ring.seq s.ring.current
    last = one_more h.filling.number s.counters.last (discarded_of h) h.filling.records ∙ (let a = is.number in let b = is.filling in cc)

-- a kept value is consistent
pub consistent-of : (s t : StreamState) → t ≡ s → IsKept t → IsConsistent s
consistent-of s t same is = subst (λ (u : StreamState). IsConsistent u) same (consistent t is.history.0 is.sound.losses is.history.1)

-- in a snapshot session nothing was consumed, and nothing was cleared
pub nothing-gone : (s t : StreamState) → t ≡ s → IsKept t → s.config.session ≡ Snapshot
    → (s.counters.consumed ≡ 0) × (s.counters.cleared ≡ 0)
nothing-gone s t same is snapshot =
    let kept : IsKept s = subst IsKept same is in
    let none : s.parts ≡ no_parts = kept.sound.unconsumed snapshot in
    let cleared : s.counters.cleared ≡ 0 =
    sym (consistent-of s t same is).gone ∙ ap (λ (p : PartsState). sum_by (λ (r : Run). r.count) p.cleared) none in
    let parts : in_parts s.parts ≡ 0 = ap in_parts none in
    (omega (arith, kept.sound.consumed, kept.sound.withdrawn, cleared, parts), cleared)

-- ---- runs

runs-lower : (low least : ℕ) (rs : List Run) → least ≤ low → RunsRise low rs → RunsRise least rs
runs-lower low least [] le rise = tt
runs-lower low least (r ∷ rs) le rise = (omega (arith, le, rise.0), rise.1)

-- the runs of records that rise, and later ones, rise
on-rise : (seq first count : ℕ) (es : List Entry) (rest : List Run) → RecordsRise (first + count) es
    → RunsRise (next_serial (first + count) es) rest → RunsRise first (runs_on seq first count es ++ rest)
on-rise seq first count [] rest rise later = (omega arith, later)
on-rise seq first count (e ∷ es) rest rise later =
    by_test (eqb e.serial (first + count)) refl
    (λ (same : e.serial ≡ first + count).
    let one : e.serial + 1 ≡ first + (count + 1) = omega (arith, same) in
    on-rise seq first (count + 1) es rest (subst (λ (low : ℕ). RecordsRise low es) one rise.1)
    (subst (λ (low : ℕ). RunsRise (next_serial low es) rest) one later))
    (on-rise seq e.serial 1 es rest rise.1 later)
  where
    by_test : (b : Bool) → eqb e.serial (first + count) ≡ b
        → (e.serial ≡ first + count → RunsRise first (runs_on seq first (count + 1) es ++ rest))
        → RunsRise e.serial (runs_on seq e.serial 1 es ++ rest)
        → RunsRise first (cond b (runs_on seq first (count + 1) es) (run_of seq first count ∷ runs_on seq e.serial 1 es) ++ rest)
    by_test true f longer other = longer (grind (arith, nat_tests, f))
    by_test false f longer other =
        (omega arith, runs-lower e.serial (first + count) (runs_on seq e.serial 1 es ++ rest) rise.0 other)

of-rise : (seq low : ℕ) (es : List Entry) (rest : List Run) → RecordsRise low es → RunsRise (next_serial low es) rest
    → RunsRise low (runs_of seq es ++ rest)
of-rise seq low [] rest rise later = later
of-rise seq low (e ∷ es) rest rise later =
    runs-lower e.serial low (runs_on seq e.serial 1 es ++ rest) rise.0 (on-rise seq e.serial 1 es rest rise.1 later)

pub buffers-rise : (seq serial : ℕ) (bs : List ClosedBuffer) (next_seq next : ℕ) → Rising seq serial bs next_seq next
    → RunsRise serial (buffer_runs bs)
buffers-rise seq serial [] next_seq next rise = tt
buffers-rise seq serial (b ∷ bs) next_seq next rise =
    of-rise b.seq serial b.records (buffer_runs bs) rise.1
    (buffers-rise (b.seq + 1) (next_serial serial b.records) bs next_seq next rise.2)

-- the runs of a stream that stands for a history rise
pub runs-rise : (s : StreamState) (h : History) → StandsFor s h → RunsRise 0 s.parts.cleared
runs-rise s h is =
    let well = is.model in
    subst (λ (rs : List Run). RunsRise 0 rs) (sym is.runs)
    (buffers-rise 0 0 (cleared_of h) h.filling.number (offered_of h)
    (rising-where is_cleared 0 0 0 0 0 h.closed h.filling.number (offered_of h) well.numbers well.covers (omega arith)
    (omega arith) (omega (arith, well.filling)) (omega arith)))
