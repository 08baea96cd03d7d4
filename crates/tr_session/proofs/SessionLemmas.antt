-- What the steps of a session leave.
use Rattle.std.proofs.Common.{◌≡◌, ◌≢◌, ◌∙◌, ℕ, max, ◌+◌, ◌<◌, zero, suc, length, arith, List, [], ◌∷◌, ◌++◌, ⊎_elim, Option, Some, None, Result, Ok, Err, ap, refl, subst, sym}
use Rattle.std.specs.Option.{option_map_or}
use Rattle.std.specs.Prelude.{IsOk, option_map, slice_get}
use Rattle.tr_session_book.proofs.BookLemmas.{due-within}
use Rattle.tr_session.proofs.CallLemmas.{noted-is, wants-memory}
use Rattle.tr_session.proofs.StreamLemmas.{mode-at}
use Rattle.tr_session_book.specs.Book.{SessionBookState}
use Rattle.tr_session_book.specs.BookSteps.{channel_named, with_thread_at, book_add_thread, thread_place, unless_refused, cut_moment, with_cut, book_after_note_cut}
use Rattle.tr_session.specs.Session.{SessionOf, HasItsStreams}
use Rattle.tr_session.specs.Steps.{with_book, next_config, session_add_stream, session_add_thread, change_at, cut_as_step, session_cut_answer, session_after_cut, cut_first}
use Rattle.tr_session_book.specs.declared.channel.Channel.{Channel}
use Rattle.tr_session_book.specs.declared.faults.SessionFault.{SessionFault}
use Rattle.tr_session_book.specs.declared.faults.SessionFault.TheVariants.{NoMemory}
use Rattle.tr_session.specs.declared.faults.StepFault.{StepFault}
use Rattle.tr_stream.proofs.SessionLemmas.{in-local}
use Rattle.tr_stream.specs.Rules.{StreamRules, by_state}
use Rattle.tr_stream.specs.State.{StreamState}
use Rattle.tr_stream.specs.StateSteps.{new_state, cut_done, state_cut_answer, state_after_cut}
use Rattle.tr_stream.specs.declared.answers.CutDone.{CutDone}
use Rattle.tr_stream.specs.declared.answers.CutFault.{CutFault}
use Rattle.tr_terms.specs.declared.session_mode.SessionMode.{SessionMode}
use Rattle.tr_terms.specs.declared.session_mode.SessionMode.TheVariants.{Local}
use Rattle.tr_stream.specs.declared.config.StreamConfig.{StreamConfig}

-- a step of the book that isn't refused is one of the session
pub added-ok : {S : Type 0} (ts : List S) (r : Result SessionBookState SessionFault) → IsOk r → IsOk (with_book ts r)
added-ok ts (Ok b) is = is
added-ok ts (Err fault) is = is

pub ok-not-err : {R F : Type 0} {x : R} {y : F} → (let r : Result R F = Ok x in r) ≡ Err y → ⊥
ok-not-err same = absurd cc

-- in a local session only a failed allocation refuses a stream's cut
pub only-memory : (s : SessionOf StreamState) (i moment : ℕ) (f : CutFault) → HasItsStreams s → s.book.mode ≡ Local
    → ((let r : Result CutDone CutFault = Err f in r) ≢ Err CutFault.NoMemory
    → option_map (state_cut_answer moment) (slice_get s.streams i) ≡ Some (Err f)) → f ≡ CutFault.NoMemory
only-memory s i moment CutFault.NoMemory is local given = refl
only-memory s i moment CutFault.SnapshotMode is local given = absurd (go (slice_get s.streams i) refl (given (λ e. cc)))
  where
    go : (o : Option StreamState) → slice_get s.streams i ≡ o → option_map (state_cut_answer moment) o ≡ Some (Err CutFault.SnapshotMode) → ⊥
    go None at refused = cc
    go (Some t) at refused =
        let mode : t.config.session ≡ Local = mode-at s i t is at ∙ local in
        let cuts : state_cut_answer moment t ≡ Ok (cut_done (max moment t.counters.last) t) =
        in-local t.config.session (Ok (cut_done (max moment t.counters.last) t)) (Err CutFault.SnapshotMode) mode in
        cc

told : {X R Y : Type 0} (f : X → R) (g : R → Y) (o : Option X) (r : R) (d : Y) → option_map f o ≡ Some r → option_map_or (λ t. g (f t)) o d ≡ g r
told f g None r d is = absurd cc
told f g (Some x) r d is = let same : f x ≡ r = cc in ap g same

-- a stream whose cut was due was cut, and that is noted
pub cut-noted : (s : SessionOf StreamState) (i moment : ℕ) (done : CutDone) (b : SessionBookState) (ts : List StreamState)
    → cut_moment i s.book ≡ Ok moment
    → option_map (state_cut_answer moment) (slice_get s.streams i) ≡ Some (Ok done)
    → ts ≡ change_at i (state_after_cut moment) s.streams → b ≡ with_cut s.book
    → ((let r : Result CutDone StepFault = Ok done in r) ≡ session_cut_answer by_state i s)
    × ((let t : SessionOf StreamState = record { book = b; streams = ts } in t) ≡ session_after_cut by_state i s)
cut-noted s i moment done b ts due at streams book = (
  rw due (sym (told (state_cut_answer moment) cut_as_step (slice_get s.streams i) (Ok done) _ at)),
  rw due (rw (streams, book) refl),
)

-- ---- rotations

-- one more stream is cut
pub cut_first-more : {S : Type 0} (rules : StreamRules S) (i : ℕ) (s now next : SessionOf S) → now ≡ cut_first rules i s
    → next ≡ session_after_cut rules i now → next ≡ cut_first rules (i + 1) s
cut_first-more rules i s now next so is =
    let one : suc i ≡ i + 1 = omega arith in
    is ∙ ap (session_after_cut rules i) so ∙ ap (λ (n : ℕ). cut_first rules n s) one

-- ---- threads

-- a thread whose channel exists is added
pub thread-made : (s t : SessionOf StreamState) (name uuid : List ℕ) (number : ℕ) (channel : Channel) (mode : SessionMode)
    (stream : StreamState) → HasItsStreams s → channel_named name s.book ≡ Some channel
    → uuid ≡ s.book.uuid → number ≡ length s.streams → mode ≡ s.book.mode
    → stream ≡ new_state (record {
      uuid = uuid;
      number = number;
      geometry = channel.geometry;
      mode = channel.mode;
      session = mode;
    }) → t.streams ≡ s.streams ++ stream ∷ [] → book_add_thread name s.book ≡ Ok t.book
    → session_add_thread by_state name s ≡ Ok t
thread-made s t name uuid number channel mode stream is named uuid_is number_is mode_is stream_is pushed noted =
    let count : number ≡ length s.book.threads = number_is ∙ is.as_many in
    let config : (let c : StreamConfig =
    record { uuid = uuid; number = number; geometry = channel.geometry; mode = channel.mode; session = mode } in c)
    ≡ next_config channel s.book = cc in
    let kept = noted-is name s.book t.book noted in
    let made : t.streams ≡ s.streams ++ new_state (next_config channel s.book) ∷ [] =
    pushed ∙ ap (λ (u : StreamState). s.streams ++ u ∷ []) (stream_is ∙ ap new_state config) in
    ap (λ (o : Option Channel). session_add_stream by_state o (thread_place name s.book) s) named
    ∙ ap (λ (r : Result ℕ SessionFault). session_add_stream by_state (Some channel) r s) kept.1
    ∙ ap (λ (b : SessionBookState).
    (let r : Result (SessionOf StreamState) SessionFault =
    Ok (record { book = b; streams = s.streams ++ new_state (next_config channel s.book) ∷ [] }) in r)) (sym kept.2)
    ∙ ap (λ (us : List StreamState).
    (let r : Result (SessionOf StreamState) SessionFault = Ok (record { book = t.book; streams = us }) in r)) (sym made)

only_wants : (r : Result ℕ SessionFault) (b : SessionBookState) (f : SessionFault) → IsOk r → with_thread_at r b ≡ Err f → ⊥
only_wants (Ok place) b f placed refused = cc
only_wants (Err fault) b f placed refused = cc

-- if there is a place, only a failed allocation refuses a thread
pub thread-wants : (b : SessionBookState) (name : List ℕ) (f : SessionFault) → IsOk (thread_place name b)
    → (f ≢ NoMemory → book_add_thread name b ≡ Err f) → f ≡ NoMemory
thread-wants b name f placed refused =
    ⊎_elim
    (λ is. cc)
    (λ isnt. absurd (only_wants (thread_place name b) b f placed
    (refused (λ (e : f ≡ NoMemory). isnt
    (ap (λ (g : SessionFault). (let r : Result SessionBookState SessionFault = Err g in r)) e)))))
    (wants-memory (let r : Result SessionBookState SessionFault = Err f in r))

-- ---- cuts that are due

-- a cut that is due is noted
pub noted-due : (i moment : ℕ) (b : SessionBookState) → cut_moment i b ≡ Ok moment → book_after_note_cut i b ≡ with_cut b
noted-due i moment b due = ap (λ (r : Result ℕ SessionFault). unless_refused r (with_cut b) b) due

pub at-there : (i : ℕ) (ts : List StreamState) → i < length ts → (t : StreamState) × (slice_get ts i ≡ Some t)
at-there i [] within = absurd (omega (arith, within))
at-there zero (t ∷ ts) within = (t, refl)
at-there (suc i) (t ∷ ts) within = at-there i ts (omega (arith, within))

-- in a local session a cut that is due can be done
pub cut-can : (s : SessionOf StreamState) (i moment : ℕ) → HasItsStreams s → s.book.mode ≡ Local
    → cut_moment i s.book ≡ Ok moment → IsOk (session_cut_answer by_state i s)
cut-can s i moment is local due =
    let within : i < length s.streams = subst (λ (n : ℕ). i < n) (sym (is.as_many)) (due-within i moment s.book due) in
    let there = at-there i s.streams within in
    let t = there.0 in
    let mode : t.config.session ≡ Local = mode-at s i t is there.1 ∙ local in
    let cuts : state_cut_answer moment t ≡ Ok (cut_done (max moment t.counters.last) t) =
    in-local t.config.session (Ok (cut_done (max moment t.counters.last) t)) (Err CutFault.SnapshotMode) mode in
    rw (due, there.1, cuts) refl
