-- What a stream's takes gave: packets whose numbers rise, each of which is kept in its chunk or was cleared.
use Rattle.std.specs.Global.{Global}
use Rattle.std.proofs.Common.{◌≡◌, ◌≢◌, ℕ, zero, suc, ◌+◌, ◌<◌, ◌≤◌, Bool, true, false, eqb, List, [], ◌∷◌, length, map, Option, Some, None, Result, Ok, Err, ⊎_elim, refl, sym, ap, ◌∙◌, subst, arith}
use Rattle.std.proofs.lemmas.Bool.Decides.{eqb_tells}
use Rattle.std.specs.Prelude.{filter_map, slice_get, slice_index}
use Rattle.std.specs.List.{AllByRecursion, cons_option}
use Rattle.std.specs.List.Sorted.{IsStrictlyIncreasing}
use Rattle.tr_journal.specs.Views.{all_done, done_by}
use Rattle.tr_journal.specs.declared.rule.Line.{Line}
use Rattle.tr_stream.proofs.ModelLemmas.{well_event}
use Rattle.tr_stream.proofs.TakeLemmas.{starts}
use Rattle.tr_stream.specs.Chunks.{buffers_where}
use Rattle.tr_stream.specs.History.{Closed, History, Kept, is_waiting}
use Rattle.tr_stream.specs.Runs.{history_after_event, history_after_events, history_answer, history_answers}
use Rattle.tr_stream.specs.Kept.{IsKept}
use Rattle.tr_stream.specs.Sound.{IsUsable}
use Rattle.tr_stream.specs.State.{StreamState}
use Rattle.tr_stream.specs.Steps.{history_after_take, history_take_answer, keep_oldest, new_history, settle_first, taken_from}
use Rattle.tr_stream.specs.WellFormed.{IsWellFormed, NumberedFrom}
use Rattle.tr_stream.specs.declared.answers.TakeFault.{TakeFault}
use Rattle.tr_stream.specs.declared.answers.TakeFault.TheVariants as take_fault
use Rattle.tr_stream.specs.declared.answers.Taken.{Taken}
use Rattle.tr_stream.specs.declared.config.StreamConfig.{StreamConfig}
use Rattle.tr_stream.specs.declared.events.StreamAnswer.{StreamAnswer}
use Rattle.tr_stream.specs.declared.events.StreamAnswer.TheVariants as answer
use Rattle.tr_stream.specs.declared.events.StreamEvent.{StreamEvent}
use Rattle.tr_stream.specs.declared.events.StreamEvent.TheVariants.{Offer, Take, Cut, Clear, Release, Peek, Start, Stop}
use Rattle.tr_terms.specs.SessionModes.{by_session_mode}
use Rattle.tr_terms.specs.declared.session_mode.SessionMode.{SessionMode}
use Rattle.tr_terms.specs.declared.session_mode.SessionMode.TheVariants.{Local, Snapshot}
use Rattle.tr_accounts.proofs.Later.{later-event, settled, settled-later, still-taken}
use Rattle.tr_accounts.specs.Accounts.{IsAccounted, history_of}
use Rattle.tr_accounts.specs.StreamSteps.{answers_in, calls_in, taken_in, taken_of}
use Rattle.tr_accounts.specs.Takes.{WasKept, WasTaken}
use Rattle.tr_accounts.specs.declared.step.StreamStep.{StreamStep}

-- ---- one take

-- the first block that waits is taken
record IsFirst (n k : ℕ) (cs : List Closed) (t : Taken) : Type 0 where
  pub seq : t.seq ≡ n + settled cs
  pub chunk : t.chunk ≡ k
  pub block : Closed
  pub there : slice_get (settle_first (Kept k) cs) (settled cs) ≡ Some block
  pub count : length block.block.records ≡ t.count
  pub kept : block.status ≡ Kept k
  pub more : settled cs + 1 ≤ settled (settle_first (Kept k) cs)

first_here : (n k discarded : ℕ) (c : Closed) (cs : List Closed) (t : Taken) → c.block.number ≡ n → is_waiting c.status ≡ true
    → taken_from k (buffers_where is_waiting discarded (c ∷ cs)) ≡ Ok t → IsFirst n k (c ∷ cs) t
first_here n k discarded c cs t number e is =
    let told : ◌≡◌ {A = Result Taken TakeFault} (Ok (record { seq = c.block.number; count = length c.block.records; chunk = k })) (Ok t) = rw e at is in
    let same : record { seq = c.block.number; count = length c.block.records; chunk = k } ≡ t = cc in
    record {
      seq = ap (λ (x : Taken). x.seq) (sym same) ∙ number ∙ rw e (omega arith);
      chunk = ap (λ (x : Taken). x.chunk) (sym same);
      block = record c { status = Kept k };
      there = rw e refl;
      count = ap (λ (x : Taken). x.count) same;
      kept = refl;
      more = rw e (omega arith);
    }

first_after : (n k discarded : ℕ) (c : Closed) (cs : List Closed) (t : Taken) → is_waiting c.status ≡ false → IsFirst (n + 1) k cs t
    → IsFirst n k (c ∷ cs) t
first_after n k discarded c cs t e r =
    let more = r.more in
    record {
      seq = r.seq ∙ rw e (omega arith);
      chunk = r.chunk;
      block = r.block;
      there = rw e r.there;
      count = r.count;
      kept = r.kept;
      more = rw e (rw e (omega arith));
    }

first_taken : (n k discarded : ℕ) (cs : List Closed) (t : Taken) → NumberedFrom n cs → taken_from k (buffers_where is_waiting discarded cs) ≡ Ok t
    → IsFirst n k cs t
first_taken n k discarded [] t numbers is = absurd cc
first_taken n k discarded (c ∷ cs) t numbers is =
    by_test (λ e. first_taken (n + 1) k (discarded + length c.block.discarded) cs t numbers.1 e) (is_waiting c.status) refl
  where
    by_test : (taken_from k (buffers_where is_waiting (discarded + length c.block.discarded) cs) ≡ Ok t → IsFirst (n + 1) k cs t)
        → (w : Bool) → is_waiting c.status ≡ w → IsFirst n k (c ∷ cs) t
    by_test rest true e = first_here n k discarded c cs t numbers.0 e is
    by_test rest false e = first_after n k discarded c cs t e (rest (rw e at is))

-- ---- a list of calls

-- numbers from this one on, each above the one before
abbrev RisesFrom : ℕ → List ℕ → Type 0
RisesFrom low [] = Unit {0}
RisesFrom low (n ∷ ns) = (low ≤ n) × RisesFrom (n + 1) ns

rises-lower : (low high : ℕ) (ns : List ℕ) → low ≤ high → RisesFrom high ns → RisesFrom low ns
rises-lower low high [] le h = tt
rises-lower low high (n ∷ ns) le h = (omega (arith, h.0, le), h.1)

abbrev seqs : List Taken → List ℕ
seqs ts = map (λ (t : Taken). t.seq) ts

-- what one take leaves
record IsTake (h after : History) (t : Taken) : Type 0 where
  pub seq : t.seq ≡ settled h.closed
  pub was : WasTaken after t
  pub more : settled h.closed + 1 ≤ settled after.closed

take_in : (m : SessionMode) (h : History) (t : Taken) → IsWellFormed h
    → by_session_mode m (taken_from h.cuts (buffers_where is_waiting 0 h.closed)) (Err take_fault.SnapshotMode) ≡ Ok t
    → IsTake h (by_session_mode m (keep_oldest h) h) t
take_in Local h t well is =
    let f = first_taken 0 h.cuts 0 h.closed t well.numbers is in
    let seq : t.seq ≡ settled h.closed = f.seq ∙ omega arith in
    record {
      seq = seq;
      was = record {
        block = f.block;
        there = ap (λ n. slice_get (settle_first (Kept h.cuts) h.closed) n) seq ∙ f.there;
        count = f.count;
        kept = subst (WasKept t.chunk) (sym f.kept) (sym f.chunk);
      };
      more = f.more;
    }
take_in Snapshot h t well is = absurd cc

abbrev given : List (StreamAnswer Global) → List Taken
given told = filter_map taken_of told

-- a taken packet stays taken
still : (c : StreamConfig) (es : List (StreamEvent Global)) (h : History) (t : Taken) → WasTaken h t → WasTaken (history_after_events c es h) t
still c [] h t was = was
still c (e ∷ es) h t was =
    still c es (history_after_event c e h) t (still-taken h.closed (history_after_event c e h).closed t (later-event c e h) was)

record AreTaken (c : StreamConfig) (es : List (StreamEvent Global)) (h : History) : Type 0 where
  pub rise : RisesFrom (settled h.closed) (seqs (given (history_answers c es h)))
  pub were : AllByRecursion (WasTaken (history_after_events c es h)) (given (history_answers c es h))

-- a call that takes nothing
skips : (c : StreamConfig) (e : StreamEvent Global) (es : List (StreamEvent Global)) (h : History) → taken_of (history_answer c e h) ≡ None
    → AreTaken c es (history_after_event c e h) → AreTaken c (e ∷ es) h
skips c e es h none rest =
    let up = settled-later h.closed (history_after_event c e h).closed (later-event c e h) in
    record { rise = rw none (rises-lower _ _ _ up rest.rise); were = rw none rest.were }

takes-one : (c : StreamConfig) (es : List (StreamEvent Global)) (h : History) (told : Result Taken TakeFault) → history_take_answer c h ≡ told
    → IsWellFormed h → AreTaken c es (history_after_take c h) → AreTaken c (Take ∷ es) h
takes-one c es h (Err fault) is well rest = skips c Take es h (ap (λ r. taken_of (answer.Take r)) is) rest
takes-one c es h (Ok t) is well rest =
    let one = take_in c.session h t well is in
    let told : taken_of (answer.Take (history_take_answer c h)) ≡ Some t = ap (λ r. taken_of (answer.Take r)) is in
    record {
      rise = rw told (omega (arith, one.seq), rises-lower _ _ _ (omega (arith, one.seq, one.more)) rest.rise);
      were = rw told (still c es (history_after_take c h) t one.was, rest.were);
    }

all_taken : (c : StreamConfig) (es : List (StreamEvent Global)) (h : History) → IsUsable c → IsWellFormed h → AreTaken c es h
all_taken c [] h usable well = record { rise = tt; were = tt }
all_taken c (e ∷ es) h usable well = by_call e (all_taken c es (history_after_event c e h) usable (well_event c e h usable well))
  where
    by_call : (d : StreamEvent Global) → AreTaken c es (history_after_event c d h) → AreTaken c (d ∷ es) h
    by_call (Offer moment id payload) rest = skips c (Offer moment id payload) es h refl rest
    by_call Take rest = takes-one c es h (history_take_answer c h) refl well rest
    by_call (Cut moment) rest = skips c (Cut moment) es h refl rest
    by_call Clear rest = skips c Clear es h refl rest
    by_call (Release k) rest = skips c (Release k) es h refl rest
    by_call (Peek moment) rest = skips c (Peek moment) es h refl rest
    by_call Start rest = skips c Start es h refl rest
    by_call Stop rest = skips c Stop es h refl rest

given-steps : (steps : List StreamStep) → given (answers_in steps) ≡ taken_in steps
given-steps [] = refl
given-steps (p ∷ ps) = ap (cons_option (taken_of p.answer)) (given-steps ps)

pub rises-all : (steps : List StreamStep) (s : StreamState) → IsAccounted steps s → IsUsable s.config → RisesFrom 0 (seqs (taken_in steps))
rises-all steps s is usable =
    let all = all_taken s.config (calls_in steps) new_history usable (starts s.config).model in
    subst (λ ts. RisesFrom 0 (seqs ts)) (sym (ap given is.answered) ∙ given-steps steps) all.rise

pub were-all : (steps : List StreamStep) (s : StreamState) → IsAccounted steps s → IsUsable s.config
    → AllByRecursion (WasTaken (history_of s.config steps)) (taken_in steps)
were-all steps s is usable =
    let all = all_taken s.config (calls_in steps) new_history usable (starts s.config).model in
    subst (AllByRecursion (WasTaken (history_of s.config steps))) (sym (ap given is.answered) ∙ given-steps steps) all.were

-- what one seat's holder took of it
rises-own : (who low : ℕ) (ls : List (Line StreamStep)) → RisesFrom low (seqs (taken_in (all_done ls))) → RisesFrom low (seqs (taken_in (done_by who ls)))
rises-own who low [] h = tt
rises-own who low (l ∷ ls) h = by_take (λ m k. rises-own who m ls k) (taken_of l.done.answer) refl
  where
    by_take : ((m : ℕ) → RisesFrom m (seqs (taken_in (all_done ls))) → RisesFrom m (seqs (taken_in (done_by who ls))))
        → (o : Option Taken) → taken_of l.done.answer ≡ o → RisesFrom low (seqs (taken_in (done_by who (l ∷ ls))))
    by_take rest None e =
        ⊎_elim
        (λ (t : (eqb l.who who ≡ true) × (l.who ≡ who)). rw t.0 (rw e (rest low (rw e at h))))
        (λ (t : (eqb l.who who ≡ false) × (l.who ≢ who)). rw t.0 (rest low (rw e at h)))
        (eqb_tells l.who who)
    by_take rest (Some taken) e =
        let k : RisesFrom low (taken.seq ∷ seqs (taken_in (all_done ls))) = rw e at h in
        ⊎_elim
        (λ (t : (eqb l.who who ≡ true) × (l.who ≡ who)). rw t.0 (rw e (k.0, rest (taken.seq + 1) k.1)))
        (λ (t : (eqb l.who who ≡ false) × (l.who ≢ who)). rw t.0 (rest low (rises-lower low (taken.seq + 1) _ (omega (arith, k.0)) k.1)))
        (eqb_tells l.who who)

were-own : (P : Taken → Type 0) (who : ℕ) (ls : List (Line StreamStep)) → AllByRecursion P (taken_in (all_done ls)) → AllByRecursion P (taken_in (done_by who ls))
were-own P who [] h = tt
were-own P who (l ∷ ls) h = by_take (λ k. were-own P who ls k) (taken_of l.done.answer) refl
  where
    by_take : (AllByRecursion P (taken_in (all_done ls)) → AllByRecursion P (taken_in (done_by who ls)))
        → (o : Option Taken) → taken_of l.done.answer ≡ o → AllByRecursion P (taken_in (done_by who (l ∷ ls)))
    by_take rest None e =
        ⊎_elim
        (λ (t : (eqb l.who who ≡ true) × (l.who ≡ who)). rw t.0 (rw e (rest (rw e at h))))
        (λ (t : (eqb l.who who ≡ false) × (l.who ≢ who)). rw t.0 (rest (rw e at h)))
        (eqb_tells l.who who)
    by_take rest (Some taken) e =
        let k : AllByRecursion P (taken ∷ taken_in (all_done ls)) = rw e at h in
        ⊎_elim
        (λ (t : (eqb l.who who ≡ true) × (l.who ≡ who)). rw t.0 (rw e (k.0, rest k.1)))
        (λ (t : (eqb l.who who ≡ false) × (l.who ≢ who)). rw t.0 (rest k.1))
        (eqb_tells l.who who)

rise-at : (low : ℕ) (ns : List ℕ) (k : ℕ) → RisesFrom low ns → suc k < length ns → slice_index ns k < slice_index ns (suc k)
rise-at low [] k h lt = absurd (omega arith)
rise-at low (n ∷ []) k h lt = absurd (omega arith)
rise-at low (n ∷ m ∷ ms) zero h lt = omega (arith, h.1.0)
rise-at low (n ∷ m ∷ ms) (suc k) h lt = rise-at (n + 1) (m ∷ ms) k h.1 (omega arith)

increasing : (low : ℕ) (ns : List ℕ) → RisesFrom low ns → IsStrictlyIncreasing ns
increasing low ns h k lt = let e : k + 1 ≡ suc k = omega arith in rw e (rise-at low ns k h (omega arith))

usable : (s : StreamState) → IsKept s → IsUsable s.config
usable s kept = record { size = kept.sound.made.size_low; count = kept.sound.made.count_low }

pub all-rise : (steps : List StreamStep) (s : StreamState) → IsAccounted steps s → IsKept s → IsStrictlyIncreasing (seqs (taken_in steps))
all-rise steps s is kept = increasing 0 (seqs (taken_in steps)) (rises-all steps s is (usable s kept))

pub all-were : (steps : List StreamStep) (s : StreamState) → IsAccounted steps s → IsKept s
    → AllByRecursion (WasTaken (history_of s.config steps)) (taken_in steps)
all-were steps s is kept = were-all steps s is (usable s kept)

pub own-rise : (lines : List (Line StreamStep)) (s : StreamState) (who : ℕ) → IsAccounted (all_done lines) s → IsKept s
    → IsStrictlyIncreasing (seqs (taken_in (done_by who lines)))
own-rise lines s who is kept =
    increasing 0 (seqs (taken_in (done_by who lines))) (rises-own who 0 lines (rises-all (all_done lines) s is (usable s kept)))

pub own-were : (lines : List (Line StreamStep)) (s : StreamState) (who : ℕ) → IsAccounted (all_done lines) s → IsKept s
    → AllByRecursion (WasTaken (history_of s.config (all_done lines))) (taken_in (done_by who lines))
own-were lines s who is kept =
    were-own (WasTaken (history_of s.config (all_done lines))) who lines (were-all (all_done lines) s is (usable s kept))
