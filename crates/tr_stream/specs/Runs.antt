-- A list of calls, one after another.
use Rattle.std.specs.Prelude.{◌≢◌, ℕ, ◌+◌, max, true, false, ◌==◌, IsOk, List, [], ◌∷◌, ◌++◌, take, Ok, Err, if◌then◌else◌}
use Rattle.tr_ring.specs.ClosedBuffer.{ClosedBuffer}
use Rattle.tr_stream.specs.Chunks.{waiting_of, ring_of}
use Rattle.tr_stream.specs.History.{History}
use Rattle.tr_stream.specs.Steps.{ClearsSome, ReleasesSome, history_after_offer, history_offer_answer, history_after_take, history_take_answer, history_after_cut, history_cut_answer, history_after_clear, history_clear_answer, history_after_release, history_release_answer, history_snap, history_after_switch}
use Rattle.tr_stream.specs.declared.config.StreamConfig.{StreamConfig}
use Rattle.tr_stream.specs.declared.events.StreamAnswer.{StreamAnswer}
use Rattle.tr_stream.specs.declared.events.StreamAnswer.TheVariants as answer
use Rattle.tr_stream.specs.declared.events.StreamEvent.{StreamEvent}
use Rattle.tr_stream.specs.declared.events.StreamEvent.TheVariants.{Offer, Take, Cut, Clear, Release, Peek, Start, Stop}
use Rattle.tr_terms.specs.SessionModes.{by_session_mode}

-- the history after a call
abbrev pub history_after_event : {A : Type 0} → StreamConfig → StreamEvent A → History → History
history_after_event c (Offer moment id payload) h = history_after_offer c moment id payload h
history_after_event c Take h = history_after_take c h
history_after_event c (Cut moment) h = history_after_cut c moment h
history_after_event c Clear h = history_after_clear c h
history_after_event c (Release k) h = history_after_release k h
history_after_event c (Peek moment) h = h
history_after_event c Start h = history_after_switch true h
history_after_event c Stop h = history_after_switch false h

-- what it answers
abbrev pub history_answer : {A : Type 0} → StreamConfig → StreamEvent A → History → StreamAnswer A
history_answer c (Offer moment id payload) h = answer.Offer (history_offer_answer c payload h)
history_answer c Take h = answer.Take (history_take_answer c h)
history_answer c (Cut moment) h = answer.Cut (history_cut_answer c moment h)
history_answer c Clear h = answer.Clear (history_clear_answer c h)
history_answer c (Release k) h = answer.Release (history_release_answer c k h)
history_answer c (Peek moment) h = answer.Peek (Ok (history_snap c moment h))
history_answer c Start h = answer.Start
history_answer c Stop h = answer.Stop

-- the answers of calls that may take memory: of a take or a cut that isn't refused, of a clear or a release that finds packets,
-- and of a peek that shows some
abbrev pub MayTakeMemory : {A : Type 0} → StreamAnswer A → Type 0
MayTakeMemory (answer.Offer told) = ⊥
MayTakeMemory (answer.Take told) = IsOk told
MayTakeMemory (answer.Cut told) = IsOk told
MayTakeMemory (answer.Clear told) = ClearsSome told
MayTakeMemory (answer.Release told) = ReleasesSome told
MayTakeMemory (answer.Peek (Ok snap)) = snap.packets ≢ []
MayTakeMemory (answer.Peek (Err fault)) = ⊥
MayTakeMemory answer.Start = ⊥
MayTakeMemory answer.Stop = ⊥

-- the history after a list of calls
abbrev pub history_after_events : {A : Type 0} → StreamConfig → List (StreamEvent A) → History → History
history_after_events c [] h = h
history_after_events c (e ∷ es) h = history_after_events c es (history_after_event c e h)

-- the answer to each
abbrev pub history_answers : {A : Type 0} → StreamConfig → List (StreamEvent A) → History → List (StreamAnswer A)
history_answers c [] h = []
history_answers c (e ∷ es) h = history_answer c e h ∷ history_answers c es (history_after_event c e h)

-- what the current chunk keeps after a call, if it kept these before
abbrev pub kept_by : {A : Type 0} → StreamConfig → StreamEvent A → History → List ClosedBuffer → List ClosedBuffer
kept_by c (Offer moment id payload) h kept = kept
kept_by c Take h kept = by_session_mode c.session (kept ++ take 1 (waiting_of h)) kept
kept_by c (Cut moment) h kept = by_session_mode c.session (kept ++ ring_of (max moment h.last) h) kept
kept_by c Clear h kept = by_session_mode c.session [] kept
kept_by c (Release k) h kept = kept
kept_by c (Peek moment) h kept = kept
kept_by c Start h kept = kept
kept_by c Stop h kept = kept

-- what a chunk keeps after calls, if it kept these before: what calls do to it while the stream has k cuts
abbrev pub kept_after : {A : Type 0} → ℕ → StreamConfig → List (StreamEvent A) → History → List ClosedBuffer → List ClosedBuffer
kept_after k c [] h kept = kept
kept_after k c (e ∷ es) h kept =
    kept_after k c es (history_after_event c e h) (if k == h.cuts then kept_by c e h kept else kept)

-- what calls keep while the stream has k cuts, and no later one of them clears
abbrev pub kept_after_cuts : {A : Type 0} → ℕ → StreamConfig → List (StreamEvent A) → History → List ClosedBuffer
kept_after_cuts k c es h = kept_after k c es h []

-- how many cuts there are among calls
abbrev pub cuts_among : {A : Type 0} → List (StreamEvent A) → ℕ
cuts_among [] = 0
cuts_among (Cut moment ∷ es) = cuts_among es + 1
cuts_among (e ∷ es) = cuts_among es

-- how many clears
abbrev pub clears_among : {A : Type 0} → List (StreamEvent A) → ℕ
clears_among [] = 0
clears_among (Clear ∷ es) = clears_among es + 1
clears_among (e ∷ es) = clears_among es

-- how many of them cut the stream
abbrev pub cuts_made : {A : Type 0} → StreamConfig → List (StreamEvent A) → ℕ
cuts_made c events = by_session_mode c.session (cuts_among events) 0
