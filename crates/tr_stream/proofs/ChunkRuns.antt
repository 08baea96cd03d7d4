-- A chunk has what was kept between its cuts.
use Rattle.std.proofs.Common.{◌≡◌, ℕ, ◌+◌, max, Bool, true, false, cond, eqb, List, [], ◌∷◌, ◌++◌, length, take, refl, sym, ◌∙◌, ap, subst, arith, Option, Some, None}
use Rattle.std.proofs.lemmas.Bool.Decides.{nat_tests}
use Rattle.std.proofs.lemmas.Grind.{common_steps}
use Rattle.std.proofs.lemmas.List.{append-nil}
use Rattle.tr_record.specs.Records.{Entry}
use Rattle.tr_ring.specs.ClosedBuffer.{ClosedBuffer}
use Rattle.tr_stream.proofs.ChunkLemmas.{buffers_where-push, other-settle_first, new-settle_first, other-keep_waiting, new-keep_waiting}
use Rattle.tr_stream.proofs.ClearLemmas.{buffers-cleared, current-cleared, other-cleared, never, none_ever}
use Rattle.tr_stream.proofs.FormLemmas.{WaitLast-push}
use Rattle.tr_stream.proofs.ModelLemmas.{well_event, well_run}
use Rattle.tr_stream.proofs.SessionLemmas.{in-local, in-snapshot}
use Rattle.tr_stream.proofs.TakeLemmas.{starts}
use Rattle.tr_stream.specs.Chunks.{buffer_of, buffers_where, chunk_of, cleared_of, kept_of, waiting_of, ring_of, closed_if_any}
use Rattle.tr_stream.specs.History.{Status, is_waiting, Waiting, Dropped, Kept, Closed, History, is_cleared, is_kept_in, discarded_in, discarded_of}
use Rattle.tr_stream.specs.Runs.{history_after_event, history_after_events, kept_by, kept_after, kept_after_cuts, clears_among, cuts_among, cuts_made}
use Rattle.tr_stream.specs.Sound.{IsUsable}
use Rattle.tr_stream.specs.Steps.{Course, Refuse, Join, Follow, DiscardNewest, Replace, course_of, after_course, history_entry, settle_first, follow_filling, keep_oldest, history_cut_ring, history_after_cut, close_filling, keep_all, clear_all, history_clear_ring, new_history, release_chunk, history_after_release, release_chunk_unless, history_release_refusal}
use Rattle.tr_stream.specs.WellFormed.{IsWellFormed, WaitLast, chunks_below}
use Rattle.tr_terms.specs.declared.session_mode.SessionMode.{SessionMode}
use Rattle.tr_terms.specs.declared.session_mode.SessionMode.TheVariants.{Local, Snapshot}
use Rattle.tr_stream.specs.declared.config.StreamConfig.{StreamConfig}
use Rattle.tr_stream.specs.declared.events.StreamEvent.{StreamEvent}
use Rattle.tr_stream.specs.declared.events.StreamEvent.TheVariants.{Offer, Take, Cut, Clear, Peek, Start, Stop, Release}
use Rattle.tr_terms.specs.SessionModes.{by_session_mode}
use Rattle.tr_stream.specs.declared.answers.ReleaseFault.{ReleaseFault}

-- a block that is closed waits
followed : (wanted : Status → Bool) (e : Entry) (h : History) → wanted Waiting ≡ false
    → buffers_where wanted 0 (follow_filling e h).closed ≡ buffers_where wanted 0 h.closed
followed wanted e h waits =
    let b : Closed = record { block = h.filling; end = e.moment; status = Waiting } in
    let there = buffers_where-push wanted 0 h.closed b in
    let none = append-nil (buffers_where wanted 0 h.closed) in
    there
    ∙ ap (λ (w : Bool). buffers_where wanted 0 h.closed ++ cond w (buffer_of (0 + discarded_in h.closed) b ∷ []) []) waits
    ∙ none

-- an offer keeps nothing and clears nothing
same-course : (wanted : Status → Bool) (course : Course) (e : Entry) (h : History) → wanted Waiting ≡ false → wanted Dropped ≡ false
    → buffers_where wanted 0 (after_course course e h).closed ≡ buffers_where wanted 0 h.closed
same-course wanted (Refuse fault) e h waits drops = refl
same-course wanted Join e h waits drops = refl
same-course wanted Follow e h waits drops = followed wanted e h waits
same-course wanted DiscardNewest e h waits drops = refl
same-course wanted Replace e h waits drops =
    followed wanted e (record h { closed = settle_first Dropped h.closed }) waits
    ∙ other-settle_first wanted Dropped 0 h.closed drops waits

chunk-course : (k : ℕ) (course : Course) (e : Entry) (h : History) → chunk_of k (after_course course e h) ≡ chunk_of k h
chunk-course k course e h = same-course (is_kept_in k) course e h refl refl

nothing-kept : (b : Bool) (bs : List ClosedBuffer) → bs ≡ cond b bs bs
nothing-kept true bs = refl
nothing-kept false bs = refl

if-kept : (b : Bool) (bs ds : List ClosedBuffer) → bs ++ cond b ds [] ≡ cond b (bs ++ ds) bs
if-kept true bs ds = refl
if-kept false bs ds = append-nil bs

-- a take keeps the oldest
chunk-taken : (k : ℕ) (h : History) (b : Bool) → eqb k h.cuts ≡ b → WaitLast h.closed
    → chunk_of k (record h { closed = settle_first (Kept h.cuts) h.closed })
    ≡ chunk_of k h ++ cond b (take 1 (waiting_of h)) []
chunk-taken k h true same order = new-settle_first (is_kept_in k) (Kept h.cuts) 0 h.closed (grind (arith, nat_tests, same)) refl order
chunk-taken k h false other order =
    other-settle_first (is_kept_in k) (Kept h.cuts) 0 h.closed (grind (arith, nat_tests, other)) refl
    ∙ sym (append-nil (chunk_of k h))

-- a cut keeps all that waits
chunk-kept : (k : ℕ) (h : History) (b : Bool) → eqb k h.cuts ≡ b → WaitLast h.closed
    → chunk_of k (keep_all h) ≡ chunk_of k h ++ cond b (waiting_of h) []
chunk-kept k h true same order = new-keep_waiting (is_kept_in k) h.cuts 0 h.closed (grind (arith, nat_tests, same)) refl order
chunk-kept k h false other order =
    other-keep_waiting (is_kept_in k) h.cuts 0 h.closed (grind (arith, nat_tests, other)) refl
    ∙ sym (append-nil (chunk_of k h))

-- closing the filling block keeps nothing
record IsFlushed (h g : History) (end : ℕ) : Type 0 where
  cuts : g.cuts ≡ h.cuts
  order : WaitLast g.closed
  chunks : (k : ℕ) → chunk_of k g ≡ chunk_of k h
  waiting : waiting_of g ≡ waiting_of h ++ closed_if_any h.filling.number end (discarded_of h) h.filling.records

flushed : (h : History) (end : ℕ) (es : List Entry) → h.filling.records ≡ es → WaitLast h.closed → IsFlushed h (close_filling es end h) end
flushed h end [] same order = record {
  cuts = refl;
  order = order;
  chunks = λ k. refl;
  waiting = sym (append-nil (waiting_of h))
      ∙ ap (λ (es : List Entry). waiting_of h ++ closed_if_any h.filling.number end (discarded_of h) es) (sym same);
}
flushed h end (e ∷ es) same order =
    let b : Closed = record { block = h.filling; end = end; status = Waiting } in
    record {
      cuts = refl;
      order = WaitLast-push h.closed b order refl;
      chunks = λ k. buffers_where-push (is_kept_in k) 0 h.closed b ∙ append-nil (chunk_of k h);
      waiting = grind (arith, common_steps, same, buffers_where-push is_waiting 0 h.closed b);
    }

chunk-cut : (k : ℕ) (h : History) (end : ℕ) (b : Bool) → eqb k h.cuts ≡ b → WaitLast h.closed
    → chunk_of k (keep_all (close_filling h.filling.records end h)) ≡ chunk_of k h ++ cond b (ring_of end h) []
chunk-cut k h end b same order =
    let is = flushed h end h.filling.records refl order in
    let g = close_filling h.filling.records end h in
    let at : eqb k g.cuts ≡ b = ap (eqb k) is.cuts ∙ same in
    let c = chunk-kept k g b at is.order in
    let d = is.chunks k in
    let e = is.waiting in
    cc

-- a clear takes all of the current chunk away
chunk-emptied : (k : ℕ) (h : History) (b : Bool) → eqb k h.cuts ≡ b → chunk_of k (clear_all h) ≡ cond b [] (chunk_of k h)
chunk-emptied k h true same =
    let e : k ≡ h.cuts = grind (arith, nat_tests, same) in
    ap (λ (n : ℕ). chunk_of n (clear_all h)) e
    ∙ buffers-cleared (is_kept_in h.cuts) never h.cuts 0 h.closed (current-cleared h.cuts) ∙ none_ever 0 h.closed
chunk-emptied k h false other = buffers-cleared (is_kept_in k) (is_kept_in k) h.cuts 0 h.closed (other-cleared k h.cuts other)

chunk-clear : (k : ℕ) (h : History) (b : Bool) → eqb k h.cuts ≡ b → WaitLast h.closed
    → chunk_of k (history_clear_ring h) ≡ cond b [] (chunk_of k h)
chunk-clear k h b same order =
    let is = flushed h h.last h.filling.records refl order in
    let g = close_filling h.filling.records h.last h in
    let at : eqb k g.cuts ≡ b = ap (eqb k) is.cuts ∙ same in
    chunk-emptied k g b at ∙ ap (λ (bs : List ClosedBuffer). cond b [] bs) (is.chunks k)

chunk-take : (k : ℕ) (m : SessionMode) (h : History) → WaitLast h.closed
    → chunk_of k (by_session_mode m (keep_oldest h) h)
    ≡ cond (eqb k h.cuts) (by_session_mode m (chunk_of k h ++ take 1 (waiting_of h)) (chunk_of k h)) (chunk_of k h)
chunk-take k Local h order =
    chunk-taken k h (eqb k h.cuts) refl order ∙ if-kept (eqb k h.cuts) (chunk_of k h) (take 1 (waiting_of h))
chunk-take k Snapshot h order = nothing-kept (eqb k h.cuts) (chunk_of k h)

chunk-cuts : (k : ℕ) (m : SessionMode) (h : History) (end : ℕ) → WaitLast h.closed
    → chunk_of k (by_session_mode m (history_cut_ring end h) h)
    ≡ cond (eqb k h.cuts) (by_session_mode m (chunk_of k h ++ ring_of end h) (chunk_of k h)) (chunk_of k h)
chunk-cuts k Local h end order =
    chunk-cut k h end (eqb k h.cuts) refl order ∙ if-kept (eqb k h.cuts) (chunk_of k h) (ring_of end h)
chunk-cuts k Snapshot h end order = nothing-kept (eqb k h.cuts) (chunk_of k h)

chunk-clears : (k : ℕ) (m : SessionMode) (h : History) → WaitLast h.closed
    → chunk_of k (by_session_mode m (history_clear_ring h) h)
    ≡ cond (eqb k h.cuts) (by_session_mode m [] (chunk_of k h)) (chunk_of k h)
chunk-clears k Local h order = chunk-clear k h (eqb k h.cuts) refl order
chunk-clears k Snapshot h order = nothing-kept (eqb k h.cuts) (chunk_of k h)

-- a take cuts nothing
cuts-taken : (m : SessionMode) (h : History) → (by_session_mode m (keep_oldest h) h).cuts ≡ h.cuts
cuts-taken Local h = refl
cuts-taken Snapshot h = refl

cuts-course : (course : Course) (e : Entry) (h : History) → (after_course course e h).cuts ≡ h.cuts
cuts-course (Refuse fault) e h = refl
cuts-course Join e h = refl
cuts-course Follow e h = refl
cuts-course DiscardNewest e h = refl
cuts-course Replace e h = refl

cuts-flushed : (es : List Entry) (end : ℕ) (h : History) → (close_filling es end h).cuts ≡ h.cuts
cuts-flushed [] end h = refl
cuts-flushed (e ∷ es) end h = refl

-- nor does a clear
cuts-cleared : (m : SessionMode) (h : History) → (by_session_mode m (history_clear_ring h) h).cuts ≡ h.cuts
cuts-cleared Local h = cuts-flushed h.filling.records h.last h
cuts-cleared Snapshot h = refl

-- a take and a cut clear nothing
cleared-taken : (m : SessionMode) (h : History) → cleared_of (by_session_mode m (keep_oldest h) h) ≡ cleared_of h
cleared-taken Local h = other-settle_first is_cleared (Kept h.cuts) 0 h.closed refl refl
cleared-taken Snapshot h = refl

cleared-flushed : (es : List Entry) (end : ℕ) (h : History) → cleared_of (close_filling es end h) ≡ cleared_of h
cleared-flushed [] end h = refl
cleared-flushed (e ∷ es) end h =
    buffers_where-push is_cleared 0 h.closed (record { block = h.filling; end = end; status = Waiting }) ∙ append-nil (cleared_of h)

cleared-cut : (m : SessionMode) (h : History) (end : ℕ) → cleared_of (by_session_mode m (history_cut_ring end h) h) ≡ cleared_of h
cleared-cut Local h end =
    let g = close_filling h.filling.records end h in
    other-keep_waiting is_cleared g.cuts 0 g.closed refl refl ∙ cleared-flushed h.filling.records end h
cleared-cut Snapshot h end = refl

-- a release changes no block and no cut
same-released : {X : Type 0} (of : History → X) → ((k : ℕ) (h : History) → of (release_chunk k h) ≡ of h)
    → (refusal : Option ReleaseFault) (k : ℕ) (h : History) → of (release_chunk_unless refusal k h) ≡ of h
same-released of same (Some fault) k h = refl
same-released of same None k h = same k h

chunk-released : (k j : ℕ) (h : History) → chunk_of k (history_after_release j h) ≡ chunk_of k h
chunk-released k j h = same-released (chunk_of k) (λ i g. refl) (history_release_refusal j h) j h

cuts-released : (j : ℕ) (h : History) → (history_after_release j h).cuts ≡ h.cuts
cuts-released j h = same-released (λ (g : History). g.cuts) (λ i g. refl) (history_release_refusal j h) j h

cleared-released : (j : ℕ) (h : History) → cleared_of (history_after_release j h) ≡ cleared_of h
cleared-released j h = same-released cleared_of (λ i g. refl) (history_release_refusal j h) j h

module _ {A : Type 0} where
  chunk-event : (k : ℕ) (c : StreamConfig) (e : StreamEvent A) (h : History) → WaitLast h.closed
      → chunk_of k (history_after_event c e h) ≡ cond (eqb k h.cuts) (kept_by c e h (chunk_of k h)) (chunk_of k h)
  chunk-event k c (Offer moment id payload) h order =
      chunk-course k (course_of c h (length payload)) (history_entry h moment id payload) h
      ∙ nothing-kept (eqb k h.cuts) (chunk_of k h)
  chunk-event k c Take h order = chunk-take k c.session h order
  chunk-event k c (Cut moment) h order = chunk-cuts k c.session h (max moment h.last) order
  chunk-event k c Clear h order = chunk-clears k c.session h order
  chunk-event k c (Release j) h order = chunk-released k j h ∙ nothing-kept (eqb k h.cuts) (chunk_of k h)
  chunk-event k c (Peek moment) h order = nothing-kept (eqb k h.cuts) (chunk_of k h)
  chunk-event k c Start h order = nothing-kept (eqb k h.cuts) (chunk_of k h)
  chunk-event k c Stop h order = nothing-kept (eqb k h.cuts) (chunk_of k h)

  chunk-events : (k : ℕ) (c : StreamConfig) (es : List (StreamEvent A)) (h : History) → IsUsable c → IsWellFormed h
      → chunk_of k (history_after_events c es h) ≡ kept_after k c es h (chunk_of k h)
  chunk-events k c [] h usable well = refl
  chunk-events k c (e ∷ es) h usable well =
      chunk-events k c es (history_after_event c e h) usable (well_event c e h usable well)
      ∙ ap (λ (bs : List ClosedBuffer). kept_after k c es (history_after_event c e h) bs) (chunk-event k c e h well.order)

  -- a chunk has what was kept between its cuts
  pub chunk_between_cuts : (c : StreamConfig) (es : List (StreamEvent A)) (k : ℕ) → IsUsable c
      → chunk_of k (history_after_events c es new_history) ≡ kept_after_cuts k c es new_history
  chunk_between_cuts c es k usable = chunk-events k c es new_history usable (starts c).model

  cuts-events : (c : StreamConfig) (es : List (StreamEvent A)) (h : History) → c.session ≡ Local
      → (history_after_events c es h).cuts ≡ h.cuts + cuts_among es
  cuts-events c [] h local = omega arith
  cuts-events c (Offer moment id payload ∷ es) h local =
      cuts-events c es (history_after_event {A = A} c (Offer moment id payload) h) local
      ∙ ap (λ (n : ℕ). n + cuts_among es)
      (cuts-course (course_of c h (length payload)) (history_entry h moment id payload) h)
  cuts-events c (Take ∷ es) h local =
      cuts-events c es (history_after_event {A = A} c Take h) local
      ∙ ap (λ (n : ℕ). n + cuts_among es) (cuts-taken c.session h)
  cuts-events c (Cut moment ∷ es) h local =
      let e = cuts-events c es (history_after_event {A = A} c (Cut moment) h) local in
      let f = cuts-flushed h.filling.records (max moment h.last) h in
      let g : (history_after_cut c moment h).cuts ≡ (history_cut_ring (max moment h.last) h).cuts =
      ap (λ (g : History). g.cuts) (in-local c.session (history_cut_ring (max moment h.last) h) h local) in
      omega (arith, e, f, g)
  cuts-events c (Clear ∷ es) h local =
      cuts-events c es (history_after_event {A = A} c Clear h) local
      ∙ ap (λ (n : ℕ). n + cuts_among es) (cuts-cleared c.session h)
  cuts-events c (Release k ∷ es) h local =
      cuts-events c es (history_after_event {A = A} c (Release k) h) local
      ∙ ap (λ (n : ℕ). n + cuts_among es) (cuts-released k h)
  cuts-events c (Peek moment ∷ es) h local = cuts-events c es h local
  cuts-events c (Start ∷ es) h local = cuts-events c es (history_after_event {A = A} c Start h) local
  cuts-events c (Stop ∷ es) h local = cuts-events c es (history_after_event {A = A} c Stop h) local

  -- in a snapshot session no call cuts
  uncut-event : (c : StreamConfig) (e : StreamEvent A) (h : History) → c.session ≡ Snapshot → (history_after_event c e h).cuts ≡ h.cuts
  uncut-event c (Offer moment id payload) h snapshot = cuts-course (course_of c h (length payload)) (history_entry h moment id payload) h
  uncut-event c Take h snapshot = cuts-taken c.session h
  uncut-event c (Cut moment) h snapshot = ap (λ (g : History). g.cuts) (in-snapshot c.session (history_cut_ring (max moment h.last) h) h snapshot)
  uncut-event c Clear h snapshot = cuts-cleared c.session h
  uncut-event c (Release k) h snapshot = cuts-released k h
  uncut-event c (Peek moment) h snapshot = refl
  uncut-event c Start h snapshot = refl
  uncut-event c Stop h snapshot = refl

  uncut-events : (c : StreamConfig) (es : List (StreamEvent A)) (h : History) → c.session ≡ Snapshot → (history_after_events c es h).cuts ≡ h.cuts
  uncut-events c [] h snapshot = refl
  uncut-events c (e ∷ es) h snapshot = uncut-events c es (history_after_event c e h) snapshot ∙ uncut-event c e h snapshot

  made-cuts : (c : StreamConfig) (es : List (StreamEvent A)) (m : SessionMode) → c.session ≡ m
      → (history_after_events c es new_history).cuts ≡ by_session_mode m (cuts_among es) 0
  made-cuts c es Local is = let e = cuts-events c es new_history is in omega (arith, e)
  made-cuts c es Snapshot is = uncut-events c es new_history is

  pub counted_cuts : (c : StreamConfig) (es : List (StreamEvent A)) → (history_after_events c es new_history).cuts ≡ cuts_made c es
  counted_cuts c es = made-cuts c es c.session refl

  -- and none keeps anything
  kept-none : (c : StreamConfig) (e : StreamEvent A) (h : History) (kept : List ClosedBuffer) → c.session ≡ Snapshot
      → kept_by c e h kept ≡ kept
  kept-none c (Offer moment id payload) h kept snapshot = refl
  kept-none c Take h kept snapshot = in-snapshot c.session (kept ++ take 1 (waiting_of h)) kept snapshot
  kept-none c (Cut moment) h kept snapshot = in-snapshot c.session (kept ++ ring_of (max moment h.last) h) kept snapshot
  kept-none c Clear h kept snapshot = in-snapshot c.session [] kept snapshot
  kept-none c (Release k) h kept snapshot = refl
  kept-none c (Peek moment) h kept snapshot = refl
  kept-none c Start h kept snapshot = refl
  kept-none c Stop h kept snapshot = refl

  none-kept : (k : ℕ) (c : StreamConfig) (es : List (StreamEvent A)) (h : History) (kept : List ClosedBuffer)
      → c.session ≡ Snapshot → kept_after k c es h kept ≡ kept
  none-kept k c [] h kept snapshot = refl
  none-kept k c (e ∷ es) h kept snapshot =
      ap (λ (bs : List ClosedBuffer). kept_after k c es (history_after_event c e h) (cond (eqb k h.cuts) bs kept))
      (kept-none c e h kept snapshot)
      ∙ ap (λ (bs : List ClosedBuffer). kept_after k c es (history_after_event c e h) bs) (sym (nothing-kept (eqb k h.cuts) kept))
      ∙ none-kept k c es (history_after_event c e h) kept snapshot

  -- but for a clear, no call clears anything
  same-cleared : (c : StreamConfig) (e : StreamEvent A) (es : List (StreamEvent A)) (h : History) → clears_among (e ∷ es) ≡ 0
      → (cleared_of (history_after_event c e h) ≡ cleared_of h) × (clears_among es ≡ 0)
  same-cleared c (Offer moment id payload) es h none = (
    same-course is_cleared (course_of c h (length payload)) (history_entry h moment id payload) h refl refl,
    none,
  )
  same-cleared c Take es h none = (cleared-taken c.session h, none)
  same-cleared c (Cut moment) es h none = (cleared-cut c.session h (max moment h.last), none)
  same-cleared c Clear es h none = absurd (omega (arith, none))
  same-cleared c (Release k) es h none = (cleared-released k h, none)
  same-cleared c (Peek moment) es h none = (refl, none)
  same-cleared c Start es h none = (refl, none)
  same-cleared c Stop es h none = (refl, none)

  cleared-only : (c : StreamConfig) (es : List (StreamEvent A)) (h : History) → clears_among es ≡ 0
      → cleared_of (history_after_events c es h) ≡ cleared_of h
  cleared-only c [] h none = refl
  cleared-only c (e ∷ es) h none =
      let same = same-cleared c e es h none in cleared-only c es (history_after_event c e h) same.1 ∙ same.0

  pub only-cleared : (c : StreamConfig) (es : List (StreamEvent A)) → clears_among es ≡ 0
      → cleared_of (history_after_events c es new_history) ≡ []
  only-cleared c es none = cleared-only c es new_history none

  -- in a snapshot session a clear doesn't either
  uncleared : (c : StreamConfig) (e : StreamEvent A) (h : History) → c.session ≡ Snapshot
      → cleared_of (history_after_event c e h) ≡ cleared_of h
  uncleared c (Offer moment id payload) h snapshot =
      same-course is_cleared (course_of c h (length payload)) (history_entry h moment id payload) h refl refl
  uncleared c Take h snapshot = ap cleared_of (in-snapshot c.session (keep_oldest h) h snapshot)
  uncleared c (Cut moment) h snapshot = ap cleared_of (in-snapshot c.session (history_cut_ring (max moment h.last) h) h snapshot)
  uncleared c Clear h snapshot = ap cleared_of (in-snapshot c.session (history_clear_ring h) h snapshot)
  uncleared c (Release k) h snapshot = cleared-released k h
  uncleared c (Peek moment) h snapshot = refl
  uncleared c Start h snapshot = refl
  uncleared c Stop h snapshot = refl

  none-cleared : (c : StreamConfig) (es : List (StreamEvent A)) (h : History) → c.session ≡ Snapshot
      → cleared_of (history_after_events c es h) ≡ cleared_of h
  none-cleared c [] h snapshot = refl
  none-cleared c (e ∷ es) h snapshot = none-cleared c es (history_after_event c e h) snapshot ∙ uncleared c e h snapshot

  -- in a snapshot session nothing is consumed, nothing is cleared, and nothing is cut
  pub never-consumed : (c : StreamConfig) (es : List (StreamEvent A)) → IsUsable c → c.session ≡ Snapshot
      → (let h = history_after_events c es new_history in (kept_of h ≡ []) × (cleared_of h ≡ []) × (h.cuts ≡ 0))
  never-consumed c es usable snapshot =
      let h = history_after_events c es new_history in
      let uncut : h.cuts ≡ 0 = uncut-events c es new_history snapshot in
      let none : chunk_of 0 h ≡ [] = chunk_between_cuts c es 0 usable ∙ none-kept 0 c es new_history [] snapshot in
      let all : chunks_below 0 h ++ chunk_of 0 h ≡ kept_of h =
      subst (λ (k : ℕ). chunks_below k h ++ chunk_of k h ≡ kept_of h) uncut (well_run c es usable).chunks in
      (sym all ∙ none, none-cleared c es new_history snapshot, uncut)
