-- What the calls of a session answer, and what they do to its book and its streams.
use Rattle.std.specs.Prelude.{◌≡◌, ◌≢◌, ◌<◌, ◌+◌, ◌⊎◌, ℕ, max, Bool, true, false, nat_lt, List, [], ◌∷◌, ◌++◌, zero, suc, length, map, take, drop, Option, Some, None, Result, Ok, Err, is_ok, slice_get, if◌then◌else◌}
use Rattle.std.specs.List.{list_any, sum_by}
use Rattle.std.specs.Option.{option_map_or}
pub use Rattle.tr_book.specs.Parts.{change_at}
use Rattle.tr_book.specs.Snaps.{SnapState}
use Rattle.tr_events.specs.Events.{Declarations, fits_declared}
use Rattle.tr_terms.specs.declared.mode.Mode.{Mode}
use Rattle.tr_schedule.specs.declared.cause.Cause.{Cause}
use Rattle.tr_session_book.specs.Book.{SessionBookState}
use Rattle.tr_session_book.specs.BookSteps.{unless_refused, channel_named, book_add_channel, book_declare, thread_place, with_thread, book_start_answer, book_after_start, book_stop_answer, book_after_stop, book_switch_answer, book_rotate_begin_answer, archive_ended, with_pending, book_after_rotate_begin, cut_moment, with_cut, book_rotate_finish_answer, book_after_rotate_finish, book_snapshot_begin_answer, book_after_snapshot_begin, snap_allowed, book_clear_answer, clear_allowed_at, book_release_answer, due_now}
use Rattle.tr_session.specs.Session.{SessionOf, session_of}
use Rattle.tr_session_book.specs.declared.archive.Archive.{Archive}
use Rattle.tr_session_book.specs.declared.archive.Pending.{Pending}
use Rattle.tr_session_book.specs.declared.channel.Channel.{Channel}
use Rattle.tr_session_book.specs.declared.faults.SessionFault.{SessionFault}
use Rattle.tr_session_book.specs.declared.faults.SessionFault.TheVariants.{SnapshotMode, NoStream, NoChannel, NoMemory, NotPending, NoArchive}
use Rattle.tr_session_book.specs.declared.faults.SessionFault.TheVariants.{Released as AlreadyReleased}
use Rattle.tr_session.specs.declared.faults.StepFault.{StepFault}
use Rattle.tr_session.specs.declared.faults.StepFault.TheVariants.{Session, Offer, Take, Cut}
use Rattle.tr_session.specs.declared.rotation.Next.{Next}
use Rattle.tr_session.specs.declared.rotation.Next.TheVariants as next
use Rattle.tr_session.specs.declared.ticks.Ticked.{Ticked}
use Rattle.tr_session.specs.declared.ticks.Ticked.TheVariants as ticked
use Rattle.tr_snapshot.specs.Snapshots.{SnapshotState, snapshot_state}
use Rattle.tr_stream.specs.Rules.{StreamRules}
use Rattle.tr_stream.specs.declared.answers.ClearFault.{ClearFault}
use Rattle.tr_stream.specs.declared.answers.ClearFault.TheVariants as clear_fault
use Rattle.tr_stream.specs.declared.answers.Cleared.{Cleared}
use Rattle.tr_stream.specs.declared.answers.CutDone.{CutDone}
use Rattle.tr_stream.specs.declared.answers.CutFault.{CutFault}
use Rattle.tr_stream.specs.declared.answers.OfferFault.{OfferFault}
use Rattle.tr_stream.specs.declared.answers.OfferFault.TheVariants.{OtherLayout}
use Rattle.tr_stream.specs.declared.answers.Offered.{Offered}
use Rattle.tr_stream.specs.declared.answers.ReleaseFault.{ReleaseFault}
use Rattle.tr_stream.specs.declared.answers.ReleaseFault.TheVariants as release_fault
use Rattle.tr_stream.specs.declared.answers.Released.{Released}
use Rattle.tr_stream.specs.declared.answers.TakeFault.{TakeFault}
use Rattle.tr_stream.specs.declared.answers.Taken.{Taken}
use Rattle.tr_stream.specs.declared.config.StreamConfig.{StreamConfig}
use Rattle.tr_stream.specs.declared.fate.Fate.{Fate}

-- ---- channels and streams

-- a session with these streams and this book, unless the book refused
abbrev pub with_book : {S : Type 0} → List S → Result SessionBookState SessionFault → Result (SessionOf S) SessionFault
with_book streams (Ok b) = Ok (session_of b streams)
with_book streams (Err fault) = Err fault

-- a channel is added
abbrev pub session_add_channel : {S : Type 0} → List ℕ → ℕ → ℕ → Mode → SessionOf S → Result (SessionOf S) SessionFault
session_add_channel name size count mode s = with_book s.streams (book_add_channel name size count mode s.book)

-- these events are declared, and no others
abbrev pub session_declare : {S : Type 0} → Declarations → SessionOf S → Result (SessionOf S) SessionFault
session_declare events s = with_book s.streams (book_declare events s.book)

-- what the next stream of a channel is made with
abbrev pub next_config : Channel → SessionBookState → StreamConfig
next_config channel b = record {
  uuid = b.uuid;
  number = length b.threads;
  geometry = channel.geometry;
  mode = channel.mode;
  session = b.mode;
}

abbrev pub session_add_stream : {S : Type 0} → StreamRules S → Option Channel → Result ℕ SessionFault → SessionOf S
    → Result (SessionOf S) SessionFault
session_add_stream rules channel (Err fault) s = Err fault
session_add_stream rules None (Ok place) s = Err NoChannel
session_add_stream rules (Some channel) (Ok place) s =
    Ok (session_of (with_thread place s.book) (s.streams ++ rules.new (next_config channel s.book) ∷ []))

-- a thread is added to a channel: its stream has the next number
abbrev pub session_add_thread : {S : Type 0} → StreamRules S → List ℕ → SessionOf S → Result (SessionOf S) SessionFault
session_add_thread rules channel s =
    session_add_stream rules (channel_named channel s.book) (thread_place channel s.book) s

-- ---- steps of one stream

abbrev pub offer_as_step : Result Offered OfferFault → Result Offered StepFault
offer_as_step (Ok offered) = Ok offered
offer_as_step (Err fault) = Err (Offer fault)

abbrev pub take_as_step : Result Taken TakeFault → Result Taken StepFault
take_as_step (Ok taken) = Ok taken
take_as_step (Err fault) = Err (Take fault)

abbrev pub cut_as_step : Result CutDone CutFault → Result CutDone StepFault
cut_as_step (Ok done) = Ok done
cut_as_step (Err fault) = Err (Cut fault)

-- an offer to stream i, which is asked
abbrev pub stream_offer_answer : {S : Type 0} → StreamRules S → ℕ → ℕ → ℕ → List ℕ → SessionOf S
    → Result Offered StepFault
stream_offer_answer rules i moment id payload s =
    option_map_or (λ t. offer_as_step (rules.offer_answer moment id payload t)) (slice_get s.streams i)
    (Err (Session NoStream))

abbrev pub stream_after_offer : {S : Type 0} → StreamRules S → ℕ → ℕ → ℕ → List ℕ → SessionOf S → SessionOf S
stream_after_offer rules i moment id payload s =
    record s { streams = change_at i (rules.after_offer moment id payload) s.streams }

-- an offer to stream i, which is asked unless the record's id is declared with another layout
abbrev pub session_offer_answer : {S : Type 0} → StreamRules S → ℕ → ℕ → ℕ → List ℕ → SessionOf S
    → Result Offered StepFault
session_offer_answer rules i moment id payload s =
    if fits_declared s.book.events id payload then stream_offer_answer rules i moment id payload s
    else Err (Offer OtherLayout)

abbrev pub session_after_offer : {S : Type 0} → StreamRules S → ℕ → ℕ → ℕ → List ℕ → SessionOf S → SessionOf S
session_after_offer rules i moment id payload s =
    if fits_declared s.book.events id payload then stream_after_offer rules i moment id payload s else s

-- a take from stream i
abbrev pub session_take_answer : {S : Type 0} → StreamRules S → ℕ → SessionOf S → Result Taken StepFault
session_take_answer rules i s =
    option_map_or (λ t. take_as_step (rules.take_answer t)) (slice_get s.streams i) (Err (Session NoStream))

abbrev pub session_after_take : {S : Type 0} → StreamRules S → ℕ → SessionOf S → SessionOf S
session_after_take rules i s = record s { streams = change_at i rules.after_take s.streams }

-- stream i is cut at this moment, if it is due
abbrev pub cut_answer_if_due : {S : Type 0} → StreamRules S → Result ℕ SessionFault → ℕ → SessionOf S
    → Result CutDone StepFault
cut_answer_if_due rules (Err fault) i s = Err (Session fault)
cut_answer_if_due rules (Ok moment) i s =
    option_map_or (λ t. cut_as_step (rules.cut_answer moment t)) (slice_get s.streams i) (Err (Session NoStream))

abbrev pub after_cut_if_due : {S : Type 0} → StreamRules S → Result ℕ SessionFault → ℕ → SessionOf S → SessionOf S
after_cut_if_due rules (Err fault) i s = s
after_cut_if_due rules (Ok moment) i s = session_of (with_cut s.book) (change_at i (rules.after_cut moment) s.streams)

-- a cut of stream i in the pending rotation
abbrev pub session_cut_answer : {S : Type 0} → StreamRules S → ℕ → SessionOf S → Result CutDone StepFault
session_cut_answer rules i s = cut_answer_if_due rules (cut_moment i s.book) i s

abbrev pub session_after_cut : {S : Type 0} → StreamRules S → ℕ → SessionOf S → SessionOf S
session_after_cut rules i s = after_cut_if_due rules (cut_moment i s.book) i s

-- stream i is shown as it is at this moment
abbrev pub snap_answer_if_allowed : {S : Type 0} → StreamRules S → Result Unit SessionFault → ℕ → ℕ → SessionOf S
    → Result SnapState SessionFault
snap_answer_if_allowed rules (Err fault) i moment s = Err fault
snap_answer_if_allowed rules (Ok done) i moment s =
    option_map_or (λ t. Ok (rules.snap moment t)) (slice_get s.streams i) (Err NoStream)

abbrev pub session_snap_answer : {S : Type 0} → StreamRules S → ℕ → ℕ → SessionOf S → Result SnapState SessionFault
session_snap_answer rules i moment s = snap_answer_if_allowed rules (snap_allowed i s.book) i moment s

-- what is shown has packets
abbrev pub ShowsPackets : Result SnapState SessionFault → Type 0
ShowsPackets (Ok snap) = snap.packets ≢ []
ShowsPackets (Err fault) = ⊥

-- what a stream answers to a clear, as a session answers it
abbrev pub clear_as_session : Result Cleared ClearFault → Result Cleared SessionFault
clear_as_session (Ok cleared) = Ok cleared
clear_as_session (Err clear_fault.SnapshotMode) = Err SnapshotMode
clear_as_session (Err clear_fault.NoMemory) = Err NoMemory

-- what is answered if the session allows it
abbrev pub if_allowed : {R : Type 0} → Result Unit SessionFault → Result R SessionFault → Result R SessionFault
if_allowed (Ok done) answer = answer
if_allowed (Err fault) answer = Err fault

-- a clear of stream i, which leaves the book as it is
abbrev pub session_clear_answer : {S : Type 0} → StreamRules S → ℕ → SessionOf S → Result Cleared SessionFault
session_clear_answer rules i s =
    if_allowed (clear_allowed_at i s.book)
    (option_map_or (λ t. clear_as_session (rules.clear_answer t)) (slice_get s.streams i) (Err NoStream))

abbrev pub session_after_clear : {S : Type 0} → StreamRules S → ℕ → SessionOf S → SessionOf S
session_after_clear rules i s =
    unless_refused (clear_allowed_at i s.book) (record s { streams = change_at i rules.after_clear s.streams }) s

-- the answer of a clear that finds packets
abbrev pub ClearsPackets : Result Cleared SessionFault → Type 0
ClearsPackets (Ok cleared) = cleared.packets ≢ 0
ClearsPackets (Err fault) = ⊥

-- what a stream answers to a release, as a session answers it
abbrev pub release_as_session : Result Released ReleaseFault → Result Released SessionFault
release_as_session (Ok released) = Ok released
release_as_session (Err release_fault.NoPart) = Err NoArchive
release_as_session (Err release_fault.Released) = Err AlreadyReleased
release_as_session (Err release_fault.NoMemory) = Err NoMemory

-- whether stream i's part of archive k can be asked for
abbrev pub release_allowed_at : ℕ → ℕ → SessionBookState → Result Unit SessionFault
release_allowed_at i k b = if nat_lt i (length b.threads) then book_release_answer k b else Err NoStream

-- a release of stream i's part of archive k, which leaves the book as it is
abbrev pub session_release_answer : {S : Type 0} → StreamRules S → ℕ → ℕ → SessionOf S → Result Released SessionFault
session_release_answer rules i k s =
    if_allowed (release_allowed_at i k s.book)
    (option_map_or (λ t. release_as_session (rules.release_answer k t)) (slice_get s.streams i) (Err NoStream))

abbrev pub session_after_release : {S : Type 0} → StreamRules S → ℕ → ℕ → SessionOf S → SessionOf S
session_after_release rules i k s =
    unless_refused (release_allowed_at i k s.book) (record s { streams = change_at i (rules.after_release k) s.streams }) s

-- the answer of a release that finds packets
abbrev pub ReleasesPackets : Result Released SessionFault → Type 0
ReleasesPackets (Ok released) = released.packets ≢ 0
ReleasesPackets (Err fault) = ⊥

-- stream i takes offers from now on, or takes none
abbrev pub session_after_switch : {S : Type 0} → StreamRules S → Bool → ℕ → SessionOf S → SessionOf S
session_after_switch rules active i s =
    unless_refused (book_switch_answer active i s.book)
    (record s { streams = change_at i (rules.after_switch active) s.streams }) s

-- ---- the session and then each stream

-- the session starts, and then each of its streams
abbrev pub session_after_start : {S : Type 0} → StreamRules S → ℕ → SessionOf S → SessionOf S
session_after_start rules moment s =
    unless_refused (book_start_answer s.book)
    (session_of (book_after_start moment s.book) (map (rules.after_switch true) s.streams)) s

abbrev pub session_after_stop : {S : Type 0} → StreamRules S → SessionOf S → SessionOf S
session_after_stop rules s =
    unless_refused (book_stop_answer s.book)
    (session_of (book_after_stop s.book) (map (rules.after_switch false) s.streams)) s

-- ---- rotations

-- the rotation begins
abbrev pub session_after_rotate_begin : {S : Type 0} → ℕ → SessionOf S → SessionOf S
session_after_rotate_begin moment s = record s { book = book_after_rotate_begin moment s.book }

-- the rotation ends
abbrev pub session_after_rotate_finish : {S : Type 0} → SessionOf S → SessionOf S
session_after_rotate_finish s = record s { book = book_after_rotate_finish s.book }

abbrev pub as_next : ℕ → Result CutDone StepFault → Result Next StepFault
as_next i (Ok done) = Ok (next.Cut i done.records)
as_next i (Err fault) = Err fault

abbrev pub next_in : {S : Type 0} → StreamRules S → Option Pending → SessionOf S → Result Next StepFault
next_in rules None s = Err (Session NotPending)
next_in rules (Some p) s = if nat_lt p.cut (length s.book.threads) then as_next p.cut (session_cut_answer rules p.cut s)
    else Ok next.AllCut

-- only a cut takes memory
abbrev pub NextTakesMemory : Result Next StepFault → Type 0
NextTakesMemory (Ok (next.Cut stream records)) = Unit {0}
NextTakesMemory (Ok next.AllCut) = ⊥
NextTakesMemory (Err fault) = ⊥

-- the pending rotation cuts its next stream, if there is one
abbrev pub session_next_answer : {S : Type 0} → StreamRules S → SessionOf S → Result Next StepFault
session_next_answer rules s = next_in rules s.book.pending s

abbrev pub session_after_next : {S : Type 0} → StreamRules S → SessionOf S → SessionOf S
session_after_next rules s = option_map_or (λ (p : Pending). session_after_cut rules p.cut s) s.book.pending s

-- the first `n` streams are cut, one after another
abbrev pub cut_first : {S : Type 0} → StreamRules S → ℕ → SessionOf S → SessionOf S
cut_first rules zero s = s
cut_first rules (suc n) s = session_after_cut rules n (cut_first rules n s)

-- a rotation that has begun, with all its cuts
abbrev pub cut_all_streams : {S : Type 0} → StreamRules S → ℕ → SessionOf S → SessionOf S
cut_all_streams rules moment s = cut_first rules (length s.streams) (session_after_rotate_begin moment s)

abbrev pub rotation_answer : Result ℕ SessionFault → Result Archive SessionFault → Result Archive SessionFault
rotation_answer (Ok id) end = end
rotation_answer (Err fault) end = Err fault

-- a whole rotation: it begins, cuts each stream and ends
abbrev pub session_rotate_answer : {S : Type 0} → StreamRules S → ℕ → SessionOf S → Result Archive SessionFault
session_rotate_answer rules moment s =
    rotation_answer (book_rotate_begin_answer s.book) (book_rotate_finish_answer (cut_all_streams rules moment s).book)

abbrev pub session_after_rotate : {S : Type 0} → StreamRules S → ℕ → SessionOf S → SessionOf S
session_after_rotate rules moment s =
    unless_refused (book_rotate_begin_answer s.book) (session_after_rotate_finish (cut_all_streams rules moment s)) s

-- what a whole rotation comes to: each stream is cut at its moment, and its archive is added
abbrev pub with_rotation : {S : Type 0} → StreamRules S → ℕ → SessionOf S → SessionOf S
with_rotation rules moment s = record {
  book = record (with_pending moment s.book)
      { pending = None; archives = s.book.archives ++ archive_ended moment s.book ∷ [] };
  streams = map (rules.after_cut (max moment s.book.last)) s.streams;
}

-- some of the streams are cut, the first ones, and not all
pub record IsCutSome {S : Type 0} (rules : StreamRules S) (s t : SessionOf S) : Type 0 where
  pub cuts : ℕ
  pub within : cuts < length s.streams
  pub is : t ≡ cut_first rules cuts s

-- what a rotation leaves after a failed allocation: what was before, or itself pending with some of its cuts
abbrev pub IsHeldUp : {S : Type 0} → StreamRules S → ℕ → SessionOf S → SessionOf S → Type 0
IsHeldUp rules moment s t = (t ≡ s) ⊎ IsCutSome rules (session_after_rotate_begin moment s) t

-- ---- clears

-- the first `n` streams are cleared, one after another
abbrev pub clear_first : {S : Type 0} → StreamRules S → ℕ → SessionOf S → SessionOf S
clear_first rules zero s = s
clear_first rules (suc n) s = session_after_clear rules n (clear_first rules n s)

abbrev pub and_records : Result ℕ SessionFault → Result Cleared SessionFault → Result ℕ SessionFault
and_records (Ok records) (Ok cleared) = Ok (records + cleared.records)
and_records (Ok records) (Err fault) = Err fault
and_records (Err fault) next = Err fault

-- how many records that clears, or the first refusal
abbrev pub clear_first_answer : {S : Type 0} → StreamRules S → ℕ → SessionOf S → Result ℕ SessionFault
clear_first_answer rules zero s = Ok 0
clear_first_answer rules (suc n) s =
    and_records (clear_first_answer rules n s) (session_clear_answer rules n (clear_first rules n s))

-- a whole clear: each stream is cleared, if the session allows it
abbrev pub session_clear_all_answer : {S : Type 0} → StreamRules S → SessionOf S → Result ℕ SessionFault
session_clear_all_answer rules s =
    if_allowed (book_clear_answer s.book) (clear_first_answer rules (length s.streams) s)

abbrev pub session_after_clear_all : {S : Type 0} → StreamRules S → SessionOf S → SessionOf S
session_after_clear_all rules s =
    unless_refused (book_clear_answer s.book) (clear_first rules (length s.streams) s) s

-- the records that a stream's clear takes away
abbrev pub records_cleared : Result Cleared ClearFault → ℕ
records_cleared (Ok cleared) = cleared.records
records_cleared (Err fault) = 0

-- what a whole clear comes to: the records of all streams, and each stream cleared in the same book
abbrev pub cleared_in_all : {S : Type 0} → StreamRules S → SessionOf S → ℕ
cleared_in_all rules s = sum_by (λ t. records_cleared (rules.clear_answer t)) s.streams

-- the first `n` streams are cleared, and the others are as they were
abbrev pub with_first_cleared : {S : Type 0} → StreamRules S → ℕ → SessionOf S → SessionOf S
with_first_cleared rules n s = record s { streams = map rules.after_clear (take n s.streams) ++ drop n s.streams }

-- what a clear leaves after a failed allocation: the streams before one that has packets are cleared, and nothing else
pub record IsClearedSome {S : Type 0} (rules : StreamRules S) (s t : SessionOf S) : Type 0 where
  pub clears : ℕ
  pub within : clears < length s.streams
  pub is : t ≡ with_first_cleared rules clears s
  pub next : ClearsPackets (session_clear_answer rules clears s)

-- ---- releases

-- a stream's part of archive k is left
abbrev pub has_part : {S : Type 0} → StreamRules S → ℕ → S → Bool
has_part rules k t = is_ok (rules.release_answer k t)

abbrev pub any_part_left : {S : Type 0} → StreamRules S → ℕ → List S → Result Unit SessionFault
any_part_left rules k streams = if list_any (has_part rules k) streams then Ok tt else Err AlreadyReleased

-- a whole release: archive k is there, and some stream's part of it is left
abbrev pub session_release_all_answer : {S : Type 0} → StreamRules S → ℕ → SessionOf S → Result Unit SessionFault
session_release_all_answer rules k s = if_allowed (book_release_answer k s.book) (any_part_left rules k s.streams)

-- each stream's part is released; one that was released before stays as it is
abbrev pub session_after_release_all : {S : Type 0} → StreamRules S → ℕ → SessionOf S → SessionOf S
session_after_release_all rules k s =
    unless_refused (book_release_answer k s.book) (record s { streams = map (rules.after_release k) s.streams }) s

-- the first `n` streams have released their parts, and the others are as they were
abbrev pub with_first_released : {S : Type 0} → StreamRules S → ℕ → ℕ → SessionOf S → SessionOf S
with_first_released rules k n s =
    record s { streams = map (rules.after_release k) (take n s.streams) ++ drop n s.streams }

-- what a release leaves after a failed allocation: the parts before one that has packets are released, and nothing else
pub record IsReleasedSome {S : Type 0} (rules : StreamRules S) (k : ℕ) (s t : SessionOf S) : Type 0 where
  pub releases : ℕ
  pub within : releases < length s.streams
  pub is : t ≡ with_first_released rules k releases s
  pub next : ReleasesPackets (session_release_answer rules releases k s)

-- ---- snapshots

-- each stream as it is at this moment, unless the snapshot was refused
abbrev pub snapshot_if_allowed : {S : Type 0} → StreamRules S → Result ℕ SessionFault → SessionOf S
    → Result SnapshotState SessionFault
snapshot_if_allowed rules (Ok moment) s = Ok (snapshot_state moment (map (rules.snap moment) s.streams))
snapshot_if_allowed rules (Err fault) s = Err fault

-- a whole snapshot: it begins, and shows each stream at the moment that is stored
abbrev pub session_snapshot_answer : {S : Type 0} → StreamRules S → ℕ → SessionOf S → Result SnapshotState SessionFault
session_snapshot_answer rules moment s = snapshot_if_allowed rules (book_snapshot_begin_answer moment s.book) s

abbrev pub session_after_snapshot : {S : Type 0} → ℕ → SessionOf S → SessionOf S
session_after_snapshot moment s = record s { book = book_after_snapshot_begin moment s.book }

-- ---- ticks

-- the bytes of each stream's current part
abbrev pub current_sizes : {S : Type 0} → StreamRules S → SessionOf S → List ℕ
current_sizes rules s = map (λ t. (rules.counts t).current_bytes) s.streams

abbrev pub tick_cause : {S : Type 0} → StreamRules S → ℕ → SessionOf S → Option Cause
tick_cause rules now s = due_now now (current_sizes rules s) s.book

abbrev pub as_ticked : Option Cause → Result Archive SessionFault → Result Ticked SessionFault
as_ticked None with_rotation = Ok ticked.Idle
as_ticked (Some cause) (Ok archive) = Ok (ticked.Rotated cause archive)
as_ticked (Some cause) (Err fault) = Err fault

-- a tick rotates the session if a rotation is due, and otherwise does nothing
abbrev pub session_tick_answer : {S : Type 0} → StreamRules S → ℕ → SessionOf S → Result Ticked SessionFault
session_tick_answer rules now s = as_ticked (tick_cause rules now s) (session_rotate_answer rules now s)

abbrev pub session_after_tick : {S : Type 0} → StreamRules S → ℕ → SessionOf S → SessionOf S
session_after_tick rules now s =
    option_map_or (λ (cause : Cause). session_after_rotate rules now s) (tick_cause rules now s) s

-- ---- questions, which change nothing

-- what became of the offer with this serial to stream i; none if there was no such offer yet
abbrev pub session_fate_answer : {S : Type 0} → StreamRules S → ℕ → ℕ → SessionOf S → Result (Option Fate) StepFault
session_fate_answer rules i serial s =
    option_map_or (λ t. Ok (rules.fate serial t)) (slice_get s.streams i) (Err (Session NoStream))
