-- How the closed blocks of a history change: none goes, none becomes another, and what was settled stays settled.
use Rattle.std.specs.Global.{Global}
use Rattle.std.proofs.Common.{◌≡◌, ◌⊎◌, inl, inr, ⊎_elim, ℕ, zero, suc, ◌≤◌, Bool, true, false, eqb, List, [], ◌∷◌, ◌++◌, length, Option, Some, None, refl, sym, ap, ◌∙◌, subst, arith, if◌then◌else◌}
use Rattle.std.specs.Prelude.{slice_get}
use Rattle.tr_record.specs.Records.{Entry}
use Rattle.tr_stream.specs.History.{Closed, History, Status, Waiting, Dropped, Kept, Cleared, is_waiting}
use Rattle.tr_stream.specs.Runs.{history_after_event}
use Rattle.tr_stream.specs.Steps.{Course, Refuse, Join, Follow, DiscardNewest, Replace, after_course, clear_blocks, cleared_status, close_filling, course_of, history_clear_ring, history_cut_ring, history_entry, history_release_refusal, keep_oldest, keep_waiting, release_chunk_unless, settle_first}
use Rattle.tr_stream.specs.declared.answers.ReleaseFault.{ReleaseFault}
use Rattle.tr_stream.specs.declared.answers.Taken.{Taken}
use Rattle.tr_stream.specs.declared.config.StreamConfig.{StreamConfig}
use Rattle.tr_stream.specs.declared.events.StreamEvent.{StreamEvent}
use Rattle.tr_stream.specs.declared.events.StreamEvent.TheVariants.{Offer, Take, Cut, Clear, Release, Peek, Start, Stop}
use Rattle.tr_terms.specs.SessionModes.{by_session_mode}
use Rattle.tr_terms.specs.declared.session_mode.SessionMode.{SessionMode}
use Rattle.tr_terms.specs.declared.session_mode.SessionMode.TheVariants.{Local, Snapshot}
use Rattle.tr_accounts.specs.Takes.{WasKept, WasTakenFrom}

-- what a status may become
abbrev Turns : Status → Status → Type 0
Turns Waiting after = Unit {0}
Turns Dropped after = after ≡ Dropped
Turns (Kept k) after = (after ≡ Kept k) ⊎ (after ≡ Cleared true)
Turns (Cleared consumed) after = after ≡ Cleared consumed

-- the same blocks, each with what its status may become, and more after them
abbrev pub Later : List Closed → List Closed → Type 0
Later [] ds = Unit {0}
Later (c ∷ cs) [] = ⊥
Later (c ∷ cs) (d ∷ ds) = (d.block ≡ c.block) × Turns c.status d.status × Later cs ds

stays : (st : Status) → Turns st st
stays Waiting = tt
stays Dropped = refl
stays (Kept k) = inl refl
stays (Cleared consumed) = refl

later-same : (cs : List Closed) → Later cs cs
later-same [] = tt
later-same (c ∷ cs) = (refl, stays c.status, later-same cs)

later-append : (cs ds es : List Closed) → Later cs ds → Later cs (ds ++ es)
later-append [] ds es h = tt
later-append (c ∷ cs) [] es h = absurd h
later-append (c ∷ cs) (d ∷ ds) es h = (h.0, h.1, later-append cs ds es h.2)

later-front : (cs xs ds : List Closed) → Later (cs ++ xs) ds → Later cs ds
later-front [] xs ds h = tt
later-front (c ∷ cs) xs [] h = absurd h
later-front (c ∷ cs) xs (d ∷ ds) h = (h.0, h.1, later-front cs xs ds h.2)

settles : (st status : Status) → is_waiting st ≡ true → Turns st status
settles Waiting status w = tt
settles Dropped status w = absurd cc
settles (Kept k) status w = absurd cc
settles (Cleared consumed) status w = absurd cc

later-settled : (status : Status) (cs : List Closed) → Later cs (settle_first status cs)
later-settled status [] = tt
later-settled status (c ∷ cs) = by_test (later-settled status cs) (is_waiting c.status) refl
  where
    by_test : Later cs (settle_first status cs) → (w : Bool) → is_waiting c.status ≡ w
        → Later (c ∷ cs) (if w then record c { status = status } ∷ cs else c ∷ settle_first status cs)
    by_test rest true e = (refl, settles c.status status e, later-same cs)
    by_test rest false e = (refl, stays c.status, rest)

later-kept : (k : ℕ) (cs : List Closed) → Later cs (keep_waiting k cs)
later-kept k [] = tt
later-kept k (c ∷ cs) = by_test (later-kept k cs) (is_waiting c.status) refl
  where
    by_test : Later cs (keep_waiting k cs) → (w : Bool) → is_waiting c.status ≡ w
        → Later (c ∷ cs) ((if w then record c { status = Kept k } else c) ∷ keep_waiting k cs)
    by_test rest true e = (refl, settles c.status (Kept k) e, rest)
    by_test rest false e = (refl, stays c.status, rest)

clears : (k : ℕ) (st : Status) → Turns st (cleared_status k st)
clears k Waiting = tt
clears k Dropped = refl
clears k (Kept j) = by_test (eqb j k)
  where
    by_test : (b : Bool) → Turns (Kept j) (if b then Cleared true else Kept j)
    by_test true = inr refl
    by_test false = inl refl
clears k (Cleared consumed) = refl

later-cleared : (k : ℕ) (cs : List Closed) → Later cs (clear_blocks k cs)
later-cleared k [] = tt
later-cleared k (c ∷ cs) = (refl, clears k c.status, later-cleared k cs)

-- ---- after a call

later-course : (course : Course) (e : Entry) (h : History) → Later h.closed (after_course course e h).closed
later-course (Refuse fault) e h = later-same h.closed
later-course Join e h = later-same h.closed
later-course Follow e h = later-append h.closed h.closed _ (later-same h.closed)
later-course DiscardNewest e h = later-same h.closed
later-course Replace e h = later-append h.closed (settle_first Dropped h.closed) _ (later-settled Dropped h.closed)

later-take : (m : SessionMode) (h : History) → Later h.closed (by_session_mode m (keep_oldest h) h).closed
later-take Local h = later-settled (Kept h.cuts) h.closed
later-take Snapshot h = later-same h.closed

later-cut_ring : (rs : List Entry) (end k : ℕ) (h : History) → Later h.closed (keep_waiting k (close_filling rs end h).closed)
later-cut_ring [] end k h = later-kept k h.closed
later-cut_ring (r ∷ rs) end k h = later-front h.closed _ _ (later-kept k (close_filling (r ∷ rs) end h).closed)

cuts-closing : (rs : List Entry) (end : ℕ) (h : History) → (close_filling rs end h).cuts ≡ h.cuts
cuts-closing [] end h = refl
cuts-closing (r ∷ rs) end h = refl

later-cut : (m : SessionMode) (end : ℕ) (h : History) → Later h.closed (by_session_mode m (history_cut_ring end h) h).closed
later-cut Local end h = later-cut_ring h.filling.records end (close_filling h.filling.records end h).cuts h
later-cut Snapshot end h = later-same h.closed

later-clear_ring : (rs : List Entry) (end k : ℕ) (h : History) → Later h.closed (clear_blocks k (close_filling rs end h).closed)
later-clear_ring [] end k h = later-cleared k h.closed
later-clear_ring (r ∷ rs) end k h = later-front h.closed _ _ (later-cleared k (close_filling (r ∷ rs) end h).closed)

later-clear : (m : SessionMode) (h : History) → Later h.closed (by_session_mode m (history_clear_ring h) h).closed
later-clear Local h = later-clear_ring h.filling.records h.last (close_filling h.filling.records h.last h).cuts h
later-clear Snapshot h = later-same h.closed

later-release : (refused : Option ReleaseFault) (k : ℕ) (h : History) → Later h.closed (release_chunk_unless refused k h).closed
later-release (Some fault) k h = later-same h.closed
later-release None k h = later-same h.closed

pub later-event : (c : StreamConfig) (e : StreamEvent Global) (h : History) → Later h.closed (history_after_event c e h).closed
later-event c (Offer moment id payload) h = later-course (course_of c h (length payload)) (history_entry h moment id payload) h
later-event c Take h = later-take c.session h
later-event c (Cut moment) h = later-cut c.session _ h
later-event c Clear h = later-clear c.session h
later-event c (Release k) h = later-release (history_release_refusal k h) k h
later-event c (Peek moment) h = later-same h.closed
later-event c Start h = later-same h.closed
later-event c Stop h = later-same h.closed

-- ---- what stays true of later blocks

still-kept : (k : ℕ) (before after : Status) → Turns before after → WasKept k before → WasKept k after
still-kept k Waiting after turns kept = absurd kept
still-kept k Dropped after turns kept = absurd kept
still-kept k (Kept j) after turns kept =
    ⊎_elim (λ same. subst (WasKept k) (sym same) kept) (λ cleared. subst (WasKept k) (sym cleared) refl) turns
still-kept k (Cleared consumed) after turns kept = subst (WasKept k) (sym turns) kept

still-at : (seq count chunk : ℕ) (cs ds : List Closed) → Later cs ds → (b : Closed) → slice_get cs seq ≡ Some b
    → length b.block.records ≡ count → WasKept chunk b.status
    → (d : Closed) × (slice_get ds seq ≡ Some d) × (length d.block.records ≡ count) × WasKept chunk d.status
still-at seq count chunk [] ds later b there many kept = absurd cc
still-at seq count chunk (c ∷ cs) [] later b there many kept = absurd later
still-at zero count chunk (c ∷ cs) (d ∷ ds) later b there many kept =
    let same : c ≡ b = cc in (
      d,
      refl,
      ap (λ blk. length blk.records) later.0 ∙ ap (λ (x : Closed). length x.block.records) same ∙ many,
      still-kept chunk c.status d.status later.1 (subst (λ (x : Closed). WasKept chunk x.status) (sym same) kept),
    )
still-at (suc seq) count chunk (c ∷ cs) (d ∷ ds) later b there many kept = still-at seq count chunk cs ds later.2 b there many kept

pub still-taken : (cs ds : List Closed) (taken : Taken) → Later cs ds → WasTakenFrom cs taken → WasTakenFrom ds taken
still-taken cs ds taken later was =
    let is = still-at taken.seq taken.count taken.chunk cs ds later was.block was.there was.count was.kept in
    record { block = is.0; there = is.1; count = is.2; kept = is.3 }

-- how many blocks are before the first that waits
abbrev pub settled : List Closed → ℕ
settled [] = 0
settled (c ∷ cs) = if is_waiting c.status then 0 else suc (settled cs)

still-settled : (before after : Status) → Turns before after → is_waiting before ≡ false → is_waiting after ≡ false
still-settled Waiting after turns e = absurd cc
still-settled Dropped after turns e = ap is_waiting turns
still-settled (Kept k) after turns e = ⊎_elim (λ same. ap is_waiting same) (λ cleared. ap is_waiting cleared) turns
still-settled (Cleared consumed) after turns e = ap is_waiting turns

pub settled-later : (cs ds : List Closed) → Later cs ds → settled cs ≤ settled ds
settled-later [] ds later = omega arith
settled-later (c ∷ cs) [] later = absurd later
settled-later (c ∷ cs) (d ∷ ds) later = by_test (settled-later cs ds later.2) (is_waiting c.status) refl
  where
    by_test : settled cs ≤ settled ds → (w : Bool) → is_waiting c.status ≡ w → (if w then 0 else suc (settled cs)) ≤ settled (d ∷ ds)
    by_test rest true e = omega arith
    by_test rest false e = rw (still-settled c.status d.status later.1 e) (omega arith)
