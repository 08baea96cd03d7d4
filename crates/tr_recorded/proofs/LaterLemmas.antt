-- What a session's calls make of it is a later value of it.
use Rattle.std.proofs.Common.{◌≡◌, ◌∙◌, arith, ℕ, zero, suc, Bool, true, false, refl, sym, List, [], ◌∷◌, ◌++◌, length, map, take, drop, Option, Some, None, Result, Ok, Err, append_assoc, append-nil, ap, ⊎_elim, subst}
use Rattle.std.specs.Option.{option_map_or}
use Rattle.std.specs.Prelude.{if◌then◌else◌}
use Rattle.tr_events.specs.Events.{fits_declared}
use Rattle.tr_recorded.proofs.GoesOnLemmas.{clear-goes, cut-goes, goes-further, goes-same, offer-goes, release-goes, take-goes}
use Rattle.tr_recorded.specs.Written.{AreLaterStreams, IsLater, IsLaterStream}
use Rattle.tr_schedule.specs.Schedules.{ScheduleState}
use Rattle.tr_schedule.specs.declared.cause.Cause.{Cause}
use Rattle.tr_session.specs.Events.{session_after_event, session_after_events}
use Rattle.tr_session.specs.Session.{SessionOf}
use Rattle.tr_session.specs.Steps.{IsClearedSome, IsCutSome, IsHeldUp, IsReleasedSome, after_cut_if_due, change_at, clear_first, cut_first, release_allowed_at, session_after_clear, session_after_clear_all, session_after_cut, session_after_next, session_after_release_all, session_after_rotate, session_after_rotate_begin, session_after_rotate_finish, session_after_snapshot, session_after_start, session_after_stop, session_after_tick, stream_after_offer, tick_cause}
use Rattle.tr_session.specs.declared.events.Event.{Event}
use Rattle.tr_session.specs.declared.events.Event.TheVariants.{Clear, Cut, Offer, Release, RotateBegin, RotateFinish, SessionStart, SessionStop, Snap, Start, Stop, Take}
use Rattle.tr_session_book.specs.Book.{SessionBookState}
use Rattle.tr_session_book.specs.BookSteps.{book_after_schedule, book_after_start, book_after_stop, book_clear_answer, book_release_answer, book_rotate_begin_answer, book_rotate_finish_answer, book_schedule_answer, book_start_answer, book_stop_answer, book_switch_answer, clear_allowed_at, cut_moment, snapshot_allowed, unless_refused, with_archive, with_cut}
use Rattle.tr_session_book.specs.declared.archive.Archive.{Archive}
use Rattle.tr_session_book.specs.declared.archive.Pending.{Pending}
use Rattle.tr_session_book.specs.declared.faults.SessionFault.{SessionFault}
use Rattle.tr_stream.proofs.RuleLemmas.{agree-cleared, agree-cut, agree-offered, agree-released, agree-taken, agree-turned}
use Rattle.tr_stream.specs.Rules.{by_history, by_state}
use Rattle.tr_stream.specs.State.{StreamState}

-- ---- a stream

stream-same : (s : StreamState) → IsLaterStream s s
stream-same s t is = (t, is, refl, goes-same t.history)

stream-further : (s u w : StreamState) → IsLaterStream s u → IsLaterStream u w → IsLaterStream s w
stream-further s u w one two t is =
    let v = one t is in
    let x = two v.0 v.1 in
    (x.0, x.1, x.2 ∙ v.2, goes-further t.history v.0.history x.0.history v.3 x.3)

abbrev Steps : (StreamState → StreamState) → Type 0
Steps f = (s : StreamState) → IsLaterStream s (f s)

offers : (moment id : ℕ) (payload : List ℕ) → Steps (by_state.after_offer moment id payload)
offers moment id payload s t is =
    (by_history.after_offer moment id payload t, agree-offered s t moment id payload is, refl, offer-goes t.config moment id payload t.history)

takes : Steps by_state.after_take
takes s t is = (by_history.after_take t, agree-taken s t is, refl, take-goes t.config t.history)

cuts : (moment : ℕ) → Steps (by_state.after_cut moment)
cuts moment s t is = (by_history.after_cut moment t, agree-cut s t moment is, refl, cut-goes t.config moment t.history)

clears : Steps by_state.after_clear
clears s t is = (by_history.after_clear t, agree-cleared s t is, refl, clear-goes t.config t.history)

releases : (k : ℕ) → Steps (by_state.after_release k)
releases k s t is = (by_history.after_release k t, agree-released s t k is, refl, release-goes k t.history)

turns : (active : Bool) → Steps (by_state.after_switch active)
turns active s t is = (by_history.after_switch active t, agree-turned s t active is, refl, record { cuts = omega arith; chunks = λ k lt. refl })

-- ---- streams

streams-same : (ss : List StreamState) → AreLaterStreams ss ss
streams-same [] = tt
streams-same (s ∷ ss) = (stream-same s, streams-same ss)

streams-further : (ss us ws : List StreamState) → AreLaterStreams ss us → AreLaterStreams us ws → AreLaterStreams ss ws
streams-further [] [] [] one two = tt
streams-further [] [] (w ∷ ws) one two = absurd two
streams-further [] (u ∷ us) ws one two = absurd one
streams-further (s ∷ ss) [] ws one two = absurd one
streams-further (s ∷ ss) (u ∷ us) [] one two = absurd two
streams-further (s ∷ ss) (u ∷ us) (w ∷ ws) one two =
    (stream-further s u w one.0 two.0, streams-further ss us ws one.1 two.1)

one-changed : (i : ℕ) (f : StreamState → StreamState) → Steps f → (ss : List StreamState) → AreLaterStreams ss (change_at i f ss)
one-changed i f steps [] = tt
one-changed zero f steps (s ∷ ss) = (steps s, streams-same ss)
one-changed (suc i) f steps (s ∷ ss) = (stream-same s, one-changed i f steps ss)

all-changed : (f : StreamState → StreamState) → Steps f → (ss : List StreamState) → AreLaterStreams ss (map f ss)
all-changed f steps [] = tt
all-changed f steps (s ∷ ss) = (steps s, all-changed f steps ss)

some-changed : (n : ℕ) (f : StreamState → StreamState) → Steps f → (ss : List StreamState) → AreLaterStreams ss (map f (take n ss) ++ drop n ss)
some-changed zero f steps ss = streams-same ss
some-changed (suc n) f steps [] = tt
some-changed (suc n) f steps (s ∷ ss) = (steps s, some-changed n f steps ss)

-- ---- a session

with-streams : (s : SessionOf StreamState) (us : List StreamState) → AreLaterStreams s.streams us
    → IsLater s (record s { streams = us })
with-streams s us later = record {
  uuid = refl;
  offset = refl;
  channels = refl;
  threads = refl;
  events = refl;
  more = [];
  archives = sym (append-nil s.book.archives);
  streams = later;
}

pub later-same : (s : SessionOf StreamState) → IsLater s s
later-same s = with-streams s s.streams (streams-same s.streams)

pub later-further : (s u w : SessionOf StreamState) → IsLater s u → IsLater u w → IsLater s w
later-further s u w one two = record {
  uuid = two.uuid ∙ one.uuid;
  offset = two.offset ∙ one.offset;
  channels = two.channels ∙ one.channels;
  threads = two.threads ∙ one.threads;
  events = two.events ∙ one.events;
  more = one.more ++ two.more;
  archives = two.archives ∙ ap (λ (l : List Archive). l ++ two.more) one.archives ∙ append_assoc s.book.archives one.more two.more;
  streams = streams-further s.streams u.streams w.streams one.streams two.streams;
}

with-book : (s : SessionOf StreamState) (b : SessionBookState) (more : List Archive) → b.uuid ≡ s.book.uuid → b.offset ≡ s.book.offset
    → b.channels ≡ s.book.channels → b.threads ≡ s.book.threads → b.events ≡ s.book.events → b.archives ≡ s.book.archives ++ more
    → IsLater s (record s { book = b })
with-book s b more uuid offset channels threads events archives = record {
  uuid = uuid;
  offset = offset;
  channels = channels;
  threads = threads;
  events = events;
  more = more;
  archives = archives;
  streams = streams-same s.streams;
}

unless-later : {R : Type 0} (r : Result R SessionFault) (s u : SessionOf StreamState) → IsLater s u → IsLater s (unless_refused r u s)
unless-later (Ok x) s u later = later
unless-later (Err fault) s u later = later-same s

-- what changes the book alone
unless-book : {R : Type 0} (r : Result R SessionFault) (s : SessionOf StreamState) (b : SessionBookState) → IsLater s (record s { book = b })
    → IsLater s (record s { book = unless_refused r b s.book })
unless-book (Ok x) s b later = later
unless-book (Err fault) s b later = later-same s

same-book : (s : SessionOf StreamState) (b : SessionBookState) → b.uuid ≡ s.book.uuid → b.offset ≡ s.book.offset
    → b.channels ≡ s.book.channels → b.threads ≡ s.book.threads → b.events ≡ s.book.events → b.archives ≡ s.book.archives
    → IsLater s (record s { book = b })
same-book s b uuid offset channels threads events archives =
    with-book s b [] uuid offset channels threads events (archives ∙ sym (append-nil s.book.archives))

starts : (moment : ℕ) (s : SessionOf StreamState) → IsLater s (record s { book = book_after_start moment s.book })
starts moment s = unless-book (book_start_answer s.book) s _ (same-book s _ refl refl refl refl refl refl)

stops : (s : SessionOf StreamState) → IsLater s (record s { book = book_after_stop s.book })
stops s = unless-book (book_stop_answer s.book) s _ (same-book s _ refl refl refl refl refl refl)

begins : (moment : ℕ) (s : SessionOf StreamState) → IsLater s (session_after_rotate_begin moment s)
begins moment s = unless-book (book_rotate_begin_answer s.book) s _ (same-book s _ refl refl refl refl refl refl)

finishes : (s : SessionOf StreamState) → IsLater s (session_after_rotate_finish s)
finishes s = by (book_rotate_finish_answer s.book)
  where
    by : (r : Result Archive SessionFault) → IsLater s (record s { book = with_archive r s.book })
    by (Ok archive) = with-book s (with_archive (Ok archive) s.book) (archive ∷ []) refl refl refl refl refl refl
    by (Err fault) = later-same s

cut-if-due : (due : Result ℕ SessionFault) (i : ℕ) (s : SessionOf StreamState) → IsLater s (after_cut_if_due by_state due i s)
cut-if-due (Err fault) i s = later-same s
cut-if-due (Ok moment) i s =
    let u : SessionOf StreamState = record s { book = with_cut s.book } in
    later-further s u (after_cut_if_due by_state (Ok moment) i s) (same-book s (with_cut s.book) refl refl refl refl refl refl)
    (with-streams u (change_at i (by_state.after_cut moment) s.streams) (one-changed i (by_state.after_cut moment) (cuts moment) s.streams))

cut-later : (i : ℕ) (s : SessionOf StreamState) → IsLater s (session_after_cut by_state i s)
cut-later i s = cut-if-due (cut_moment i s.book) i s

at-stream : (i : ℕ) (f : StreamState → StreamState) → Steps f → (s : SessionOf StreamState)
    → IsLater s (record s { streams = change_at i f s.streams })
at-stream i f steps s = with-streams s (change_at i f s.streams) (one-changed i f steps s.streams)

offer-later : (fits : Bool) (i moment id : ℕ) (payload : List ℕ) (s : SessionOf StreamState)
    → IsLater s (if fits then stream_after_offer by_state i moment id payload s else s)
offer-later true i moment id payload s = at-stream i (by_state.after_offer moment id payload) (offers moment id payload) s
offer-later false i moment id payload s = later-same s

clear-later : (i : ℕ) (s : SessionOf StreamState) → IsLater s (session_after_clear by_state i s)
clear-later i s = unless-later (clear_allowed_at i s.book) s _ (at-stream i by_state.after_clear clears s)

-- ---- events

module _ {A : Type 0} where
  event-later : (e : Event A) (s : SessionOf StreamState) → IsLater s (session_after_event by_state e s)
  event-later (Offer i moment id payload) s = offer-later (fits_declared s.book.events id payload) i moment id payload s
  event-later (Take i) s = at-stream i by_state.after_take takes s
  event-later (Cut i) s = cut-later i s
  event-later (Clear i) s = clear-later i s
  event-later (Release i k) s =
      unless-later (release_allowed_at i k s.book) s _ (at-stream i (by_state.after_release k) (releases k) s)
  event-later (Snap i moment) s = later-same s
  event-later (Start i) s = unless-later (book_switch_answer true i s.book) s _ (at-stream i (by_state.after_switch true) (turns true) s)
  event-later (Stop i) s = unless-later (book_switch_answer false i s.book) s _ (at-stream i (by_state.after_switch false) (turns false) s)
  event-later (SessionStart moment) s = starts moment s
  event-later SessionStop s = stops s
  event-later (RotateBegin moment) s = begins moment s
  event-later RotateFinish s = finishes s

  pub events-later : (es : List (Event A)) (s : SessionOf StreamState) → IsLater s (session_after_events by_state es s)
  events-later [] s = later-same s
  events-later (e ∷ es) s =
      let u = session_after_event by_state e s in
      later-further s u (session_after_events by_state es u) (event-later e s) (events-later es u)

-- ---- calls of all streams

pub start-later : (moment : ℕ) (s : SessionOf StreamState) → IsLater s (session_after_start by_state moment s)
start-later moment s =
    let u : SessionOf StreamState = record s { book = book_after_start moment s.book } in
    unless-later (book_start_answer s.book) s _
    (later-further s u _ (starts moment s)
    (with-streams u (map (by_state.after_switch true) s.streams) (all-changed (by_state.after_switch true) (turns true) s.streams)))

pub stop-later : (s : SessionOf StreamState) → IsLater s (session_after_stop by_state s)
stop-later s =
    let u : SessionOf StreamState = record s { book = book_after_stop s.book } in
    unless-later (book_stop_answer s.book) s _
    (later-further s u _ (stops s)
    (with-streams u (map (by_state.after_switch false) s.streams) (all-changed (by_state.after_switch false) (turns false) s.streams)))

cuts-later : (n : ℕ) (s : SessionOf StreamState) → IsLater s (cut_first by_state n s)
cuts-later zero s = later-same s
cuts-later (suc n) s =
    let u = cut_first by_state n s in later-further s u (session_after_cut by_state n u) (cuts-later n s) (cut-later n u)

pub rotate-later : (moment : ℕ) (s : SessionOf StreamState) → IsLater s (session_after_rotate by_state moment s)
rotate-later moment s =
    let begun = session_after_rotate_begin moment s in
    let cut = cut_first by_state (length s.streams) begun in
    unless-later (book_rotate_begin_answer s.book) s (session_after_rotate_finish cut)
    (later-further s begun (session_after_rotate_finish cut) (begins moment s)
    (later-further begun cut (session_after_rotate_finish cut) (cuts-later (length s.streams) begun) (finishes cut)))

pub tick-later : (now : ℕ) (s : SessionOf StreamState) → IsLater s (session_after_tick by_state now s)
tick-later now s = by (tick_cause by_state now s)
  where
    by : (o : Option Cause) → IsLater s (option_map_or (λ (cause : Cause). session_after_rotate by_state now s) o s)
    by None = later-same s
    by (Some cause) = rotate-later now s

pub next-later : (s : SessionOf StreamState) → IsLater s (session_after_next by_state s)
next-later s = by s.book.pending
  where
    by : (o : Option Pending) → IsLater s (option_map_or (λ (p : Pending). session_after_cut by_state p.cut s) o s)
    by None = later-same s
    by (Some p) = cut-later p.cut s

pub held-up-later : (moment : ℕ) (s t : SessionOf StreamState) → IsHeldUp by_state moment s t → IsLater s t
held-up-later moment s t held =
    ⊎_elim (λ same. subst (IsLater s) (sym same) (later-same s))
    (λ (some : IsCutSome by_state (session_after_rotate_begin moment s) t).
    let begun = session_after_rotate_begin moment s in
    subst (IsLater s) (sym some.is)
    (later-further s begun (cut_first by_state some.cuts begun) (begins moment s) (cuts-later some.cuts begun)))
    held

clears-later : (n : ℕ) (s : SessionOf StreamState) → IsLater s (clear_first by_state n s)
clears-later zero s = later-same s
clears-later (suc n) s =
    let u = clear_first by_state n s in later-further s u (session_after_clear by_state n u) (clears-later n s) (clear-later n u)

pub clear-all-later : (s : SessionOf StreamState) → IsLater s (session_after_clear_all by_state s)
clear-all-later s = unless-later (book_clear_answer s.book) s _ (clears-later (length s.streams) s)

pub cleared-some-later : (s t : SessionOf StreamState) → IsClearedSome by_state s t → IsLater s t
cleared-some-later s t some =
    subst (IsLater s) (sym some.is) (with-streams s _ (some-changed some.clears by_state.after_clear clears s.streams))

pub release-all-later : (k : ℕ) (s : SessionOf StreamState) → IsLater s (session_after_release_all by_state k s)
release-all-later k s =
    unless-later (book_release_answer k s.book) s _ (with-streams s _ (all-changed (by_state.after_release k) (releases k) s.streams))

pub released-some-later : (k : ℕ) (s t : SessionOf StreamState) → IsReleasedSome by_state k s t → IsLater s t
released-some-later k s t some =
    subst (IsLater s) (sym some.is) (with-streams s _ (some-changed some.releases (by_state.after_release k) (releases k) s.streams))

pub snapshot-later : (moment : ℕ) (s : SessionOf StreamState) → IsLater s (session_after_snapshot moment s)
snapshot-later moment s = unless-book (snapshot_allowed s.book) s _ (same-book s _ refl refl refl refl refl refl)

pub schedule-later : (schedule : Option ScheduleState) (s : SessionOf StreamState)
    → IsLater s (record s { book = book_after_schedule schedule s.book })
schedule-later schedule s = unless-book (book_schedule_answer s.book) s _ (same-book s _ refl refl refl refl refl refl)
