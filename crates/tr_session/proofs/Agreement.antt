-- A session by what its streams hold, and by their histories: both take the same steps.
use Rattle.std.proofs.Common.{◌≡◌, ℕ, ◌≤◌, max, zero, suc, Bool, true, false, List, [], ◌∷◌, ◌++◌, length, map, Option, Some, None, Result, Ok, Err, refl, sym, ◌∙◌, ap, subst, arith}
use Rattle.std.proofs.lemmas.Bool.Decides.{nat_tests}
use Rattle.std.proofs.lemmas.Grind.{common_steps}
use Rattle.std.specs.List.{sum_by}
use Rattle.std.specs.Map.{lookup}
use Rattle.std.specs.Option.{option_map_or}
use Rattle.std.specs.Prelude.{if◌then◌else◌, nat_le, nat_lt, slice_get, is_some}
use Rattle.std.specs.Str.{bytes_eq}
use Rattle.tr_terms.specs.Geometry.{GeometryState, geometry_of, is_size, is_count}
use Rattle.tr_terms.specs.declared.geometry.GeometryFault.{GeometryFault}
use Rattle.tr_terms.specs.declared.geometry.GeometryFault.TheVariants as geometry
use Rattle.tr_book.specs.Parts.{PartState, part_bytes, part_packets}
use Rattle.tr_book.specs.Snaps.{SnapState}
use Rattle.tr_book.specs.declared.counts.Counts.{Counts}
use Rattle.tr_terms.specs.declared.mode.Mode.{Mode}
use Rattle.tr_schedule.specs.Schedules.{ScheduleState}
use Rattle.tr_schedule.specs.declared.cause.Cause.{Cause}
use Rattle.tr_events.specs.Events.{fits_declared}
use Rattle.tr_session.specs.Agreement.{AllAgree, CanBeMade, AllCanBeMade, SessionsAgree}
use Rattle.tr_session_book.specs.Book.{SessionBookState}
use Rattle.tr_session_book.specs.BookSteps.{unless_refused, is_new, is_allowed, channel_named, channel_of_geometry, book_add_channel, thread_place, with_thread, book_start_answer, with_start, book_after_start, book_stop_answer, with_stop, book_after_stop, book_switch_answer, book_rotate_begin_answer, with_pending, book_after_rotate_begin, cut_moment, with_cut, book_rotate_finish_answer, with_archive, book_after_rotate_finish, snapshot_allowed, book_snapshot_begin_answer, book_after_snapshot_begin, snap_allowed, book_schedule_answer, book_after_schedule, due_now}
use Rattle.tr_session.specs.Session.{SessionOf}
use Rattle.tr_session.specs.Sizes.{archive_released, part_released, archive_packets, archive_bytes}
use Rattle.tr_session.specs.Steps.{with_book, stream_offer_answer, stream_after_offer, session_add_channel, next_config, session_add_stream, session_add_thread, change_at, offer_as_step, take_as_step, cut_as_step, session_offer_answer, session_after_offer, session_take_answer, session_after_take, cut_answer_if_due, after_cut_if_due, session_cut_answer, session_after_cut, snap_answer_if_allowed, session_snap_answer, session_after_switch, session_after_start, session_after_stop, session_after_rotate_begin, session_after_rotate_finish, as_next, next_in, session_next_answer, session_after_next, cut_first, cut_all_streams, rotation_answer, session_rotate_answer, session_after_rotate, snapshot_if_allowed, session_snapshot_answer, session_after_snapshot, current_sizes, tick_cause, as_ticked, session_tick_answer, session_after_tick, session_fate_answer}
use Rattle.tr_session_book.specs.declared.archive.Archive.{Archive}
use Rattle.tr_session_book.specs.declared.archive.Pending.{Pending}
use Rattle.tr_session_book.specs.declared.channel.Channel.{Channel}
use Rattle.tr_session_book.specs.declared.faults.SessionFault.{SessionFault}
use Rattle.tr_session.specs.declared.faults.StepFault.{StepFault}
use Rattle.tr_session.specs.declared.faults.StepFault.TheVariants.{Offer}
use Rattle.tr_stream.specs.declared.answers.OfferFault.TheVariants.{OtherLayout}
use Rattle.tr_session.specs.declared.rotation.Next.TheVariants as next
use Rattle.tr_stream.proofs.RuleLemmas.{agree-made, agree-offered, agree-taken, agree-cut, agree-turned, same-counted, same-cut, same-fated, same-offered, same-parted, same-snapped, same-taken}
use Rattle.tr_snapshot.specs.Snapshots.{SnapshotState}
use Rattle.tr_stream.specs.Rules.{Traced, Agrees, by_state, by_history}
use Rattle.tr_stream.specs.State.{StreamState}
use Rattle.tr_stream.specs.declared.answers.CutDone.{CutDone}
use Rattle.tr_stream.specs.declared.fate.Fate.{Fate}
use Rattle.tr_terms.specs.declared.limits.TheConstants.{MOST_CHANNELS, SMALLEST_SUB_BUFFER}

-- both are refused alike, or lead to sessions that agree
abbrev pub ResultsAgree : Result (SessionOf StreamState) SessionFault → Result (SessionOf Traced) SessionFault → Type 0
ResultsAgree (Ok a) (Ok b) = SessionsAgree a b
ResultsAgree (Ok a) (Err g) = ⊥
ResultsAgree (Err f) (Ok b) = ⊥
ResultsAgree (Err f) (Err g) = f ≡ g

-- ---- the streams

pub same-length : (ss : List StreamState) (ts : List Traced) → AllAgree ss ts → length ss ≡ length ts
same-length [] [] agree = refl
same-length [] (t ∷ ts) agree = absurd agree
same-length (s ∷ ss) [] agree = absurd agree
same-length (s ∷ ss) (t ∷ ts) agree = grind (arith, common_steps, same-length ss ts agree.1)

all-push : (ss : List StreamState) (ts : List Traced) (s : StreamState) (t : Traced) → AllAgree ss ts → Agrees s t
    → AllAgree (ss ++ s ∷ []) (ts ++ t ∷ [])
all-push [] [] s t old new = (new, tt)
all-push [] (y ∷ ts) s t old new = absurd old
all-push (x ∷ ss) [] s t old new = absurd old
all-push (x ∷ ss) (y ∷ ts) s t old new = (old.0, all-push ss ts s t old.1 new)

all-turned : (active : Bool) (ss : List StreamState) (ts : List Traced) → AllAgree ss ts
    → AllAgree (map (by_state.after_switch active) ss) (map (by_history.after_switch active) ts)
all-turned active [] [] agree = tt
all-turned active [] (t ∷ ts) agree = absurd agree
all-turned active (s ∷ ss) [] agree = absurd agree
all-turned active (s ∷ ss) (t ∷ ts) agree = (agree-turned s t active agree.0, all-turned active ss ts agree.1)

pub all-changed : (i : ℕ) (f : StreamState → StreamState) (g : Traced → Traced) (ss : List StreamState) (ts : List Traced)
    → ((s : StreamState) (t : Traced) → Agrees s t → Agrees (f s) (g t)) → AllAgree ss ts
    → AllAgree (change_at i f ss) (change_at i g ts)
all-changed i f g [] [] step agree = tt
all-changed i f g [] (t ∷ ts) step agree = absurd agree
all-changed i f g (s ∷ ss) [] step agree = absurd agree
all-changed zero f g (s ∷ ss) (t ∷ ts) step agree = (step s t agree.0, agree.1)
all-changed (suc i) f g (s ∷ ss) (t ∷ ts) step agree = (agree.0, all-changed i f g ss ts step agree.1)

-- what is asked of the stream of a number
pub same-at : {X : Type 0} (i : ℕ) (f : StreamState → X) (g : Traced → X) (x : X) (ss : List StreamState) (ts : List Traced)
    → ((s : StreamState) (t : Traced) → Agrees s t → f s ≡ g t) → AllAgree ss ts
    → option_map_or f (slice_get ss i) x ≡ option_map_or g (slice_get ts i) x
same-at i f g x [] [] same agree = refl
same-at i f g x [] (t ∷ ts) same agree = absurd agree
same-at i f g x (s ∷ ss) [] same agree = absurd agree
same-at zero f g x (s ∷ ss) (t ∷ ts) same agree = same s t agree.0
same-at (suc i) f g x (s ∷ ss) (t ∷ ts) same agree = same-at i f g x ss ts same agree.1

pub same-sum : (f : StreamState → ℕ) (g : Traced → ℕ) (ss : List StreamState) (ts : List Traced)
    → ((s : StreamState) (t : Traced) → Agrees s t → f s ≡ g t) → AllAgree ss ts → sum_by f ss ≡ sum_by g ts
same-sum f g [] [] same agree = refl
same-sum f g [] (t ∷ ts) same agree = absurd agree
same-sum f g (s ∷ ss) [] same agree = absurd agree
same-sum f g (s ∷ ss) (t ∷ ts) same agree = let first = same s t agree.0 in let rest =
    same-sum f g ss ts same agree.1 in grind (arith, common_steps, first, rest)

-- what is asked of each stream
same-each : {X : Type 0} (f : StreamState → X) (g : Traced → X) (ss : List StreamState) (ts : List Traced)
    → ((s : StreamState) (t : Traced) → Agrees s t → f s ≡ g t) → AllAgree ss ts → map f ss ≡ map g ts
same-each f g [] [] same agree = refl
same-each f g [] (t ∷ ts) same agree = absurd agree
same-each f g (s ∷ ss) [] same agree = absurd agree
same-each f g (s ∷ ss) (t ∷ ts) same agree = let first = same s t agree.0 in let rest = same-each f g ss ts same agree.1 in cc

kept-unless : {R : Type 0} (r : Result R SessionFault) (done old : SessionBookState) → done.channels ≡ old.channels
    → (unless_refused r done old).channels ≡ old.channels
kept-unless (Ok x) done old same = same
kept-unless (Err f) done old same = refl

kept-archived : (r : Result Archive SessionFault) (old : SessionBookState) → (with_archive r old).channels ≡ old.channels
kept-archived (Ok archive) old = refl
kept-archived (Err f) old = refl

agree-if : (t u : Bool) → t ≡ u → (a c : SessionOf StreamState) (b d : SessionOf Traced) → SessionsAgree a b → SessionsAgree c d
    → SessionsAgree (if t then a else c) (if u then b else d)
agree-if true true same a c b d first second = first
agree-if true false same a c b d first second = absurd cc
agree-if false true same a c b d first second = absurd cc
agree-if false false same a c b d first second = second

module _ (a : SessionOf StreamState) (b : SessionOf Traced) (is : SessionsAgree a b) where
  -- ---- steps of one stream

  same-asked : (i moment id : ℕ) (payload : List ℕ)
      → stream_offer_answer by_state i moment id payload a ≡ stream_offer_answer by_history i moment id payload b
  same-asked i moment id payload =
      same-at i (λ s. offer_as_step (by_state.offer_answer moment id payload s))
      (λ t. offer_as_step (by_history.offer_answer moment id payload t)) _ a.streams b.streams
      (λ s t agree. ap offer_as_step (same-offered s t moment id payload agree)) is.streams

  pub same-offer : (i moment id : ℕ) (payload : List ℕ)
      → session_offer_answer by_state i moment id payload a ≡ session_offer_answer by_history i moment id payload b
  same-offer i moment id payload =
      λ j. if fits_declared (is.book j).events id payload then same-asked i moment id payload j else Err (Offer OtherLayout)

  agree-asked : (i moment id : ℕ) (payload : List ℕ)
      → SessionsAgree (stream_after_offer by_state i moment id payload a)
      (stream_after_offer by_history i moment id payload b)
  agree-asked i moment id payload =
      record {
        book = is.book;
        made = is.made;
        streams =
            all-changed i (by_state.after_offer moment id payload) (by_history.after_offer moment id payload) a.streams b.streams
            (λ s t agree. agree-offered s t moment id payload agree) is.streams;
      }

  pub agree-offer : (i moment id : ℕ) (payload : List ℕ)
      → SessionsAgree (session_after_offer by_state i moment id payload a)
      (session_after_offer by_history i moment id payload b)
  agree-offer i moment id payload =
      agree-if (fits_declared a.book.events id payload) (fits_declared b.book.events id payload)
      (ap (λ (book : SessionBookState). fits_declared book.events id payload) is.book)
      (stream_after_offer by_state i moment id payload a) a (stream_after_offer by_history i moment id payload b) b
      (agree-asked i moment id payload) is

  pub same-take : (i : ℕ) → session_take_answer by_state i a ≡ session_take_answer by_history i b
  same-take i = same-at i (λ s. take_as_step (by_state.take_answer s)) (λ t. take_as_step (by_history.take_answer t)) _
      a.streams b.streams (λ s t agree. ap take_as_step (same-taken s t agree)) is.streams

  pub agree-take : (i : ℕ) → SessionsAgree (session_after_take by_state i a) (session_after_take by_history i b)
  agree-take i = record {
    book = is.book;
    made = is.made;
    streams =
        all-changed i by_state.after_take by_history.after_take a.streams b.streams (λ s t agree. agree-taken s t agree)
        is.streams;
  }

  same-cut_at : (due : Result ℕ SessionFault) (i : ℕ) → cut_answer_if_due by_state due i a ≡ cut_answer_if_due by_history due i b
  same-cut_at (Err fault) i = refl
  same-cut_at (Ok moment) i =
      same-at i (λ s. cut_as_step (by_state.cut_answer moment s)) (λ t. cut_as_step (by_history.cut_answer moment t)) _
      a.streams b.streams (λ s t agree. ap cut_as_step (same-cut s t moment agree)) is.streams

  pub same-cut_step : (i : ℕ) → session_cut_answer by_state i a ≡ session_cut_answer by_history i b
  same-cut_step i = same-cut_at (cut_moment i a.book) i ∙ ap (λ (c : SessionBookState). cut_answer_if_due by_history (cut_moment i c) i b) is.book

  agree-cut_at : (due : Result ℕ SessionFault) (i : ℕ) → SessionsAgree (after_cut_if_due by_state due i a) (after_cut_if_due by_history due i b)
  agree-cut_at (Err fault) i = is
  agree-cut_at (Ok moment) i =
      record {
        book = ap with_cut is.book;
        made = is.made;
        streams =
            all-changed i (by_state.after_cut moment) (by_history.after_cut moment) a.streams b.streams
            (λ s t agree. agree-cut s t moment agree) is.streams;
      }

  pub agree-cut_step : (i : ℕ) → SessionsAgree (session_after_cut by_state i a) (session_after_cut by_history i b)
  agree-cut_step i = subst (λ (c : SessionBookState). SessionsAgree (session_after_cut by_state i a)
      (after_cut_if_due by_history (cut_moment i c) i b)) is.book (agree-cut_at (cut_moment i a.book) i)

  same-snap_at : (r : Result Unit SessionFault) (i moment : ℕ)
      → snap_answer_if_allowed by_state r i moment a ≡ snap_answer_if_allowed by_history r i moment b
  same-snap_at (Err fault) i moment = refl
  same-snap_at (Ok done) i moment =
      same-at i (λ s. Ok (by_state.snap moment s)) (λ t. Ok (by_history.snap moment t)) _ a.streams b.streams
      (λ s t agree. ap (λ (snap : SnapState). Ok snap) (same-snapped s t moment agree)) is.streams

  pub same-snap : (i moment : ℕ) → session_snap_answer by_state i moment a ≡ session_snap_answer by_history i moment b
  same-snap i moment = same-snap_at (snap_allowed i a.book) i moment
      ∙ ap (λ (c : SessionBookState). snap_answer_if_allowed by_history (snap_allowed i c) i moment b) is.book

  pub same-fate : (i serial : ℕ) → session_fate_answer by_state i serial a ≡ session_fate_answer by_history i serial b
  same-fate i serial = same-at i (λ s. Ok (by_state.fate serial s)) (λ t. Ok (by_history.fate serial t)) _ a.streams
      b.streams (λ s t agree. ap (λ (fate : Option Fate). Ok fate) (same-fated s t serial agree)) is.streams

  -- ---- the session's calls

  -- a step that only the book may refuse
  pub agree-unless : {R : Type 0} (r : Result R SessionFault) (q : Result R SessionFault) (c : SessionOf StreamState)
      (d : SessionOf Traced) → r ≡ q → SessionsAgree c d → SessionsAgree (unless_refused r c a) (unless_refused q d b)
  agree-unless {R = R} (Ok x) q c d same agree = subst (λ (p : Result R SessionFault). SessionsAgree c (unless_refused p d b)) same agree
  agree-unless {R = R} (Err f) q c d same agree = subst (λ (p : Result R SessionFault). SessionsAgree a (unless_refused p d b)) same is

  pub agree-switch : (active : Bool) (i : ℕ) → SessionsAgree (session_after_switch by_state active i a) (session_after_switch by_history active i b)
  agree-switch active i = agree-unless (book_switch_answer active i a.book) (book_switch_answer active i b.book) _ _
      (ap (book_switch_answer active i) is.book)
      (record {
        book = is.book;
        made = is.made;
        streams =
            all-changed i (by_state.after_switch active) (by_history.after_switch active) a.streams b.streams
            (λ s t agree. agree-turned s t active agree) is.streams;
      })

  -- a step that changes the book alone, and no channel
  agree-book : (f : SessionBookState → SessionBookState) → (f a.book).channels ≡ a.book.channels
      → SessionsAgree (record a { book = f a.book }) (record b { book = f b.book })
  agree-book f channels = record { book = ap f is.book; streams = is.streams; made = subst AllCanBeMade (sym channels) is.made }

  pub agree-alone_started : (moment : ℕ)
      → SessionsAgree (record a { book = book_after_start moment a.book })
      (record b { book = book_after_start moment b.book })
  agree-alone_started moment = agree-book (book_after_start moment) (kept-unless (book_start_answer a.book) (with_start moment a.book) a.book refl)

  pub agree-alone_stopped : SessionsAgree (record a { book = book_after_stop a.book }) (record b { book = book_after_stop b.book })
  agree-alone_stopped = agree-book book_after_stop (kept-unless (book_stop_answer a.book) (with_stop a.book) a.book refl)

  pub agree-started : (moment : ℕ) → SessionsAgree (session_after_start by_state moment a) (session_after_start by_history moment b)
  agree-started moment = agree-unless (book_start_answer a.book) (book_start_answer b.book) _ _ (ap book_start_answer is.book)
      (record {
        book = ap (book_after_start moment) is.book;
        made = (agree-alone_started moment).made;
        streams = all-turned true a.streams b.streams is.streams;
      })

  pub agree-stopped : SessionsAgree (session_after_stop by_state a) (session_after_stop by_history b)
  agree-stopped = agree-unless (book_stop_answer a.book) (book_stop_answer b.book) _ _ (ap book_stop_answer is.book)
      (record { book = ap book_after_stop is.book; made = agree-alone_stopped.made; streams = all-turned false a.streams b.streams is.streams })

  pub agree-begun : (moment : ℕ) → SessionsAgree (session_after_rotate_begin moment a) (session_after_rotate_begin moment b)
  agree-begun moment = agree-book (book_after_rotate_begin moment)
      (kept-unless (book_rotate_begin_answer a.book) (with_pending moment a.book) a.book refl)

  pub agree-finished : SessionsAgree (session_after_rotate_finish a) (session_after_rotate_finish b)
  agree-finished = agree-book book_after_rotate_finish (kept-archived (book_rotate_finish_answer a.book) a.book)

  same-next_in : (p : Option Pending) → next_in by_state p a ≡ next_in by_history p b
  same-next_in None = refl
  same-next_in (Some p) =
      ap (λ (n : ℕ). if nat_lt p.cut n then as_next p.cut (session_cut_answer by_state p.cut a) else Ok next.AllCut)
      (ap (λ (c : SessionBookState). length c.threads) is.book)
      ∙ ap (λ (r : Result CutDone StepFault). if nat_lt p.cut (length b.book.threads) then as_next p.cut r else Ok next.AllCut) (same-cut_step p.cut)

  pub same-next : session_next_answer by_state a ≡ session_next_answer by_history b
  same-next = same-next_in a.book.pending ∙ ap (λ (c : SessionBookState). next_in by_history c.pending b) is.book

  agree-next_in : (p : Option Pending)
      → SessionsAgree (option_map_or (λ (q : Pending). session_after_cut by_state q.cut a) p a)
      (option_map_or (λ (q : Pending). session_after_cut by_history q.cut b) p b)
  agree-next_in None = is
  agree-next_in (Some p) = agree-cut_step p.cut

  pub agree-next : SessionsAgree (session_after_next by_state a) (session_after_next by_history b)
  agree-next = subst (λ (c : SessionBookState). SessionsAgree (session_after_next by_state a)
      (option_map_or (λ (q : Pending). session_after_cut by_history q.cut b) c.pending b)) is.book
      (agree-next_in a.book.pending)

  -- ---- a whole snapshot

  same-seen_at : (r : Result ℕ SessionFault) → snapshot_if_allowed by_state r a ≡ snapshot_if_allowed by_history r b
  same-seen_at (Err fault) = refl
  same-seen_at (Ok moment) =
      ap (λ (snaps : List SnapState). (let r : Result SnapshotState SessionFault = Ok (record { moment = moment; streams = snaps }) in r))
      (same-each (by_state.snap moment) (by_history.snap moment) a.streams b.streams (λ s t agree. same-snapped s t moment agree) is.streams)

  pub same-snapshot : (moment : ℕ) → session_snapshot_answer by_state moment a ≡ session_snapshot_answer by_history moment b
  same-snapshot moment = same-seen_at (book_snapshot_begin_answer moment a.book)
      ∙ ap (λ (c : SessionBookState). snapshot_if_allowed by_history (book_snapshot_begin_answer moment c) b) is.book

  pub agree-snapshot : (moment : ℕ) → SessionsAgree (session_after_snapshot moment a) (session_after_snapshot moment b)
  agree-snapshot moment = agree-book (book_after_snapshot_begin moment)
      (kept-unless (snapshot_allowed a.book) (record a.book { last = max moment a.book.last }) a.book refl)

  -- ---- schedules

  pub agree-scheduled : (schedule : Option ScheduleState)
      → SessionsAgree (record a { book = book_after_schedule schedule a.book })
      (record b { book = book_after_schedule schedule b.book })
  agree-scheduled schedule = agree-book (book_after_schedule schedule)
      (kept-unless (book_schedule_answer a.book) (record a.book { schedule = schedule }) a.book refl)

  pub same-cause : (now : ℕ) → tick_cause by_state now a ≡ tick_cause by_history now b
  same-cause now =
      ap (λ (sizes : List ℕ). due_now now sizes a.book)
      (same-each (λ s. (by_state.counts s).current_bytes) (λ t. (by_history.counts t).current_bytes) a.streams b.streams
      (λ s t agree. ap (λ (n : Counts). n.current_bytes) (same-counted s t agree)) is.streams)
      ∙ ap (due_now now (current_sizes by_history b)) is.book

  -- ---- how much an archive holds

  pub same-archive_packets : (id : ℕ) → archive_packets by_state id a ≡ archive_packets by_history id b
  same-archive_packets id = same-sum (λ s. option_map_or part_packets (by_state.part id s) 0) (λ t. option_map_or part_packets (by_history.part id t) 0)
      a.streams b.streams (λ s t agree. ap (λ (part : Option PartState). option_map_or part_packets part 0) (same-parted s t id agree)) is.streams

  pub same-archive_bytes : (id : ℕ) → archive_bytes by_state id a ≡ archive_bytes by_history id b
  same-archive_bytes id = same-sum (λ s. option_map_or part_bytes (by_state.part id s) 0) (λ t. option_map_or part_bytes (by_history.part id t) 0) a.streams
      b.streams (λ s t agree. ap (λ (part : Option PartState). option_map_or part_bytes part 0) (same-parted s t id agree)) is.streams

  pub same-archive_released : (id : ℕ) → archive_released by_state id a ≡ archive_released by_history id b
  same-archive_released id = same-sum (λ s. option_map_or part_released (by_state.part id s) 0) (λ t. option_map_or part_released (by_history.part id t) 0) a.streams
      b.streams (λ s t agree. ap (λ (part : Option PartState). option_map_or part_released part 0) (same-parted s t id agree)) is.streams

-- ---- whole rotations

agree-cut_first : (n : ℕ) (a : SessionOf StreamState) (b : SessionOf Traced) → SessionsAgree a b
    → SessionsAgree (cut_first by_state n a) (cut_first by_history n b)
agree-cut_first zero a b is = is
agree-cut_first (suc n) a b is = agree-cut_step (cut_first by_state n a) (cut_first by_history n b) (agree-cut_first n a b is) n

agree-all_cut : (a : SessionOf StreamState) (b : SessionOf Traced) (moment : ℕ) → SessionsAgree a b
    → SessionsAgree (cut_all_streams by_state moment a) (cut_all_streams by_history moment b)
agree-all_cut a b moment is =
    subst (λ (n : ℕ). SessionsAgree (cut_all_streams by_state moment a)
    (cut_first by_history n (session_after_rotate_begin moment b))) (same-length a.streams b.streams is.streams)
    (agree-cut_first (length a.streams) (session_after_rotate_begin moment a) (session_after_rotate_begin moment b) (agree-begun a b is moment))

pub same-rotate : (a : SessionOf StreamState) (b : SessionOf Traced) → SessionsAgree a b → (moment : ℕ)
    → session_rotate_answer by_state moment a ≡ session_rotate_answer by_history moment b
same-rotate a b is moment =
    ap (λ (c : SessionBookState). rotation_answer (book_rotate_begin_answer c)
    (book_rotate_finish_answer (cut_all_streams by_state moment a).book)) is.book
    ∙ ap (λ (c : SessionBookState). rotation_answer (book_rotate_begin_answer b.book) (book_rotate_finish_answer c))
    (agree-all_cut a b moment is).book

pub agree-rotate : (a : SessionOf StreamState) (b : SessionOf Traced) → SessionsAgree a b → (moment : ℕ)
    → SessionsAgree (session_after_rotate by_state moment a) (session_after_rotate by_history moment b)
agree-rotate a b is moment =
    agree-unless a b is (book_rotate_begin_answer a.book) (book_rotate_begin_answer b.book) _ _
    (ap book_rotate_begin_answer is.book)
    (agree-finished (cut_all_streams by_state moment a) (cut_all_streams by_history moment b) (agree-all_cut a b moment is))

-- ---- ticks

pub same-tick : (a : SessionOf StreamState) (b : SessionOf Traced) → SessionsAgree a b → (now : ℕ)
    → session_tick_answer by_state now a ≡ session_tick_answer by_history now b
same-tick a b is now =
    ap (λ (cause : Option Cause). as_ticked cause (session_rotate_answer by_state now a)) (same-cause a b is now)
    ∙ ap (as_ticked (tick_cause by_history now b)) (same-rotate a b is now)

agree-ticked : (a c : SessionOf StreamState) (b d : SessionOf Traced) (cause : Option Cause) → SessionsAgree a b
    → SessionsAgree c d → SessionsAgree (option_map_or (λ (x : Cause). c) cause a)
    (option_map_or (λ (x : Cause). d) cause b)
agree-ticked a c b d None is done = is
agree-ticked a c b d (Some cause) is done = done

pub agree-tick : (a : SessionOf StreamState) (b : SessionOf Traced) → SessionsAgree a b → (now : ℕ)
    → SessionsAgree (session_after_tick by_state now a) (session_after_tick by_history now b)
agree-tick a b is now =
    subst (λ (cause : Option Cause). SessionsAgree (session_after_tick by_state now a)
    (option_map_or (λ (x : Cause). session_after_rotate by_history now b) cause b)) (same-cause a b is now)
    (agree-ticked a (session_after_rotate by_state now a) b (session_after_rotate by_history now b)
    (tick_cause by_state now a) is (agree-rotate a b is now))

-- ---- channels and threads

size_low : (n : ℕ) → is_size n ≡ true → SMALLEST_SUB_BUFFER ≤ n
size_low n is = grind (arith, nat_tests, is)

count_low : (n : ℕ) → is_count n ≡ true → 2 ≤ n
count_low n is = grind (arith, nat_tests, is)

made-is : (size count : ℕ) (g : GeometryState) → geometry_of size count ≡ Ok g → CanBeMade g
made-is size count g is = go (is_size size) (is_count count) refl refl
  where
    go : (a b : Bool) → is_size size ≡ a → is_count count ≡ b → CanBeMade g
    go true true x y =
        let same : (let r : Result GeometryState GeometryFault = Ok (record { size = size; count = count }) in r) ≡ Ok g = rw (x, y) at is in
        let e : (let h : GeometryState = record { size = size; count = count } in h) ≡ g = cc in
        subst CanBeMade e (size_low size x, count_low count y)
    go true false x y = let no_way : (let r : Result GeometryState GeometryFault = Err geometry.BadCount in r) ≡ Ok g = rw (x, y) at is in absurd cc
    go false b x y = let no_way : (let r : Result GeometryState GeometryFault = Err geometry.BadSize in r) ≡ Ok g = rw x at is in absurd cc

can-push : (cs : List (List ℕ × Channel)) (c : List ℕ × Channel) → AllCanBeMade cs → CanBeMade c.1.geometry → AllCanBeMade (cs ++ c ∷ [])
can-push [] c old new = (new, tt)
can-push (d ∷ cs) c old new = (old.0, can-push cs c old.1 new)

-- every channel of a book can be made
abbrev AreMade : Result SessionBookState SessionFault → Type 0
AreMade (Ok c) = AllCanBeMade c.channels
AreMade (Err f) = Unit {0}

made-geometry : (b : SessionBookState) (name : List ℕ) (mode : Mode) (g : Result GeometryState GeometryFault)
    → ((h : GeometryState) → g ≡ Ok h → CanBeMade h) → AllCanBeMade b.channels → AreMade (channel_of_geometry name mode g b)
made-geometry b name mode (Err fault) can is = tt
made-geometry b name mode (Ok g) can is = by_test (is_allowed b.mode mode) refl
  where
    by_test : (allowed : Bool) → is_allowed b.mode mode ≡ allowed → AreMade (channel_of_geometry name mode (Ok g) b)
    by_test true e = rw e (can-push b.channels (name, record { geometry = g; mode = mode }) is (can g refl))
    by_test false e = rw e tt

made-channel : (b : SessionBookState) (name : List ℕ) (size count : ℕ) (mode : Mode) → AllCanBeMade b.channels
    → AreMade (book_add_channel name size count mode b)
made-channel b name size count mode is =
    go (is_new b.state) (is_some (channel_named name b)) (nat_le MOST_CHANNELS (length b.channels)) refl refl refl
  where
    go : (fresh taken full : Bool) → is_new b.state ≡ fresh → is_some (channel_named name b) ≡ taken
        → nat_le MOST_CHANNELS (length b.channels) ≡ full → AreMade (book_add_channel name size count mode b)
    go false taken full x y z = rw x tt
    go true true full x y z = rw (x, y) tt
    go true false true x y z = rw (x, y, z) tt
    go true false false x y z = rw (x, y, z) (made-geometry b name mode (geometry_of size count) (λ h e. made-is size count h e) is)

agree-with_book : (a : SessionOf StreamState) (b : SessionOf Traced) (r q : Result SessionBookState SessionFault) → r ≡ q
    → AreMade r → AllAgree a.streams b.streams → ResultsAgree (with_book a.streams r) (with_book b.streams q)
agree-with_book a b (Ok c) q same made streams =
    subst (λ (p : Result SessionBookState SessionFault). ResultsAgree (with_book a.streams (Ok c)) (with_book b.streams p))
    same (record { book = refl; streams = streams; made = made })
agree-with_book a b (Err f) q same made streams =
    subst (λ (p : Result SessionBookState SessionFault). ResultsAgree (with_book a.streams (Err f)) (with_book b.streams p))
    same refl

pub agree-channel : (a : SessionOf StreamState) (b : SessionOf Traced) → SessionsAgree a b
    → (name : List ℕ) (size count : ℕ) (mode : Mode)
    → ResultsAgree (session_add_channel name size count mode a) (session_add_channel name size count mode b)
agree-channel a b is name size count mode =
    agree-with_book a b (book_add_channel name size count mode a.book) (book_add_channel name size count mode b.book)
    (ap (book_add_channel name size count mode) is.book) (made-channel a.book name size count mode is.made) is.streams

found-can : (test : List ℕ → Bool) (cs : List (List ℕ × Channel)) (c : Channel) → lookup test cs ≡ Some c → AllCanBeMade cs → CanBeMade c.geometry
found-can test [] c found can = absurd cc
found-can test (e ∷ cs) c found can = go (test e.0) refl (λ later. found-can test cs c later can.1)
  where
    go : (b : Bool) → test e.0 ≡ b → (lookup test cs ≡ Some c → CanBeMade c.geometry) → CanBeMade c.geometry
    go true t rest =
        let here : Some e.1 ≡ Some c = rw t at found in
        let same : e.1 ≡ c = cc in
        subst (λ (d : Channel). CanBeMade d.geometry) same can.0
    go false t rest = rest (rw t at found)

agree-stream : (a : SessionOf StreamState) (b : SessionOf Traced) (channel : Option Channel) (place : Result ℕ SessionFault)
    → ((c : Channel) → channel ≡ Some c → CanBeMade c.geometry) → SessionsAgree a b
    → ResultsAgree (session_add_stream by_state channel place a) (session_add_stream by_history channel place b)
agree-stream a b channel (Err fault) can is = refl
agree-stream a b None (Ok place) can is = refl
agree-stream a b (Some c) (Ok place) can is = record {
  book = ap (with_thread place) is.book;
  made = is.made;
  streams = all-push a.streams b.streams _ _ is.streams
      (subst (λ (d : SessionBookState). Agrees (by_state.new (next_config c a.book)) (by_history.new (next_config c d)))
      is.book (agree-made (next_config c a.book) (can c refl).0 (can c refl).1));
}

pub agree-thread : (a : SessionOf StreamState) (b : SessionOf Traced) → SessionsAgree a b → (channel : List ℕ)
    → ResultsAgree (session_add_thread by_state channel a) (session_add_thread by_history channel b)
agree-thread a b is channel =
    subst (λ (d : SessionBookState). ResultsAgree (session_add_thread by_state channel a)
    (session_add_stream by_history (channel_named channel d) (thread_place channel d) b)) is.book
    (agree-stream a b (channel_named channel a.book) (thread_place channel a.book)
    (λ c found. found-can (bytes_eq channel) a.book.channels c found is.made) is)
