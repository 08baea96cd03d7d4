-- What the calls of a session's book answer, and what they do: the first refusal that applies, or else the step.
use Rattle.std.specs.Prelude.{◌≡◌, ℕ, ◌+◌, ◌≤◌, max, Bool, true, false, not, ◌&&◌, nat_le, nat_lt, List, [], ◌∷◌, ◌++◌, length, map, is_some, Option, Some, None, option_map, option_and_then, position, Result, Ok, Err, slice_get, if◌then◌else◌}
use Rattle.std.specs.Map.{lookup}
use Rattle.std.specs.Str.{bytes_eq}
use Rattle.tr_terms.specs.Geometry.{GeometryState, geometry_of}
use Rattle.tr_terms.specs.declared.geometry.GeometryFault.{GeometryFault}
use Rattle.tr_terms.specs.declared.mode.Mode.{Mode}
use Rattle.tr_terms.specs.declared.mode.Mode.TheVariants.{Discard, Overwrite}
use Rattle.tr_events.specs.Events.{Declarations}
use Rattle.tr_schedule.specs.Due.{due_cause}
use Rattle.tr_schedule.specs.Schedules.{ScheduleState}
use Rattle.tr_schedule.specs.declared.cause.Cause.{Cause}
use Rattle.tr_session_book.specs.Book.{SessionBookState}
use Rattle.tr_session_book.specs.Names.{AreNamed}
use Rattle.tr_session_book.specs.declared.archive.Archive.{Archive}
use Rattle.tr_session_book.specs.declared.archive.Pending.{Pending}
use Rattle.tr_session_book.specs.declared.channel.Channel.{Channel}
use Rattle.tr_session_book.specs.declared.faults.SessionFault.{SessionFault}
use Rattle.tr_session_book.specs.declared.faults.SessionFault.TheVariants.{SnapshotMode, NotSnapshotMode, NeverStarted, RotationPending, AlreadyRotated, AlreadyActive, NotActive, NoStream, DiscardInSnapshot, AlreadyStarted, BadGeometry, TooMany, NotPending, CutMissing, NameTaken, NoChannel, NoArchive}
use Rattle.tr_session_book.specs.declared.state.State.{State}
use Rattle.tr_session_book.specs.declared.state.State.TheVariants.{New, Active, Inactive}
use Rattle.tr_terms.specs.SessionModes.{by_session_mode}
use Rattle.tr_terms.specs.declared.session_mode.SessionMode.{SessionMode}
use Rattle.tr_terms.specs.declared.session_mode.SessionMode.TheVariants.{Local, Snapshot}
use Rattle.tr_terms.specs.declared.limits.TheConstants.{MOST_CHANNELS, MOST_STREAMS}

abbrev pub is_new : State → Bool
is_new New = true
is_new Active = false
is_new Inactive = false

abbrev pub is_active : State → Bool
is_active New = false
is_active Active = true
is_active Inactive = false

abbrev pub is_inactive : State → Bool
is_inactive New = false
is_inactive Active = false
is_inactive Inactive = true

-- what holds after a step, and what stays if it was refused
abbrev pub unless_refused : {R F X : Type 0} → Result R F → X → X → X
unless_refused (Ok r) done old = done
unless_refused (Err fault) done old = old

-- ---- channels and streams, which are only added before the first start

-- no more than are allowed
abbrev pub IsWithinLimits : SessionBookState → Type 0
IsWithinLimits b = (length b.channels ≤ MOST_CHANNELS) × (length b.threads ≤ MOST_STREAMS)

-- before the first start nothing was archived, and no rotation is pending
abbrev pub BeginsBare : SessionBookState → Type 0
BeginsBare b = is_new b.state ≡ true → (b.pending ≡ None) × (b.archives ≡ [])

-- each archive's number is its place, and the pending one's is the number of archives
abbrev pub AreNumbered : SessionBookState → Type 0
AreNumbered b = ((k : ℕ) (archive : Archive) → slice_get b.archives k ≡ Some archive → archive.id ≡ k)
    × ((pending : Pending) → b.pending ≡ Some pending → pending.archive.id ≡ length b.archives)

-- the archive of a rotation, if one is pending
abbrev pub archive_pending : Option Pending → List Archive
archive_pending None = []
archive_pending (Some p) = p.archive ∷ []

-- when the first of these archives began, or else the chunk after them
abbrev pub first_begin : List Archive → ℕ → ℕ
first_begin [] chunk = chunk
first_begin (a ∷ archives) chunk = a.begin

-- no archive ends before it begins; each ends when the next one begins, and the last one when this chunk does
abbrev pub AreChained : List Archive → ℕ → Type 0
AreChained [] chunk = Unit {0}
AreChained (a ∷ archives) chunk = (a.begin ≤ a.end) × (a.end ≡ first_begin archives chunk) × AreChained archives chunk

-- the archives, the pending rotation's after them, and the current chunk follow each other, up to the last stored moment
abbrev pub FollowInTime : SessionBookState → Type 0
FollowInTime b = AreChained (b.archives ++ archive_pending b.pending) b.begin × (b.begin ≤ b.last)

-- what every book obeys; only a local session has a pending rotation
abbrev pub IsBook : SessionBookState → Type 0
IsBook b = IsWithinLimits b × BeginsBare b × AreNumbered b × (is_some b.pending ≡ true → b.mode ≡ Local)
    × AreNamed b.channels × FollowInTime b

abbrev pub channel_named : List ℕ → SessionBookState → Option Channel
channel_named name b = lookup (bytes_eq name) b.channels

abbrev pub with_channel : List ℕ → Channel → SessionBookState → SessionBookState
with_channel name channel b = record b { channels = b.channels ++ (name, channel) ∷ [] }

-- in a snapshot session every ring overwrites
abbrev pub is_allowed : SessionMode → Mode → Bool
is_allowed Local mode = true
is_allowed Snapshot Overwrite = true
is_allowed Snapshot Discard = false

-- a channel of this geometry, if there is such a geometry
abbrev pub channel_of_geometry : List ℕ → Mode → Result GeometryState GeometryFault → SessionBookState
    → Result SessionBookState SessionFault
channel_of_geometry name mode (Err fault) b = Err BadGeometry
channel_of_geometry name mode (Ok geometry) b =
    if is_allowed b.mode mode then Ok (with_channel name (record { geometry = geometry; mode = mode }) b)
    else Err DiscardInSnapshot

-- a channel is added
abbrev pub book_add_channel : List ℕ → ℕ → ℕ → Mode → SessionBookState → Result SessionBookState SessionFault
book_add_channel name size count mode b =
    if is_new b.state then
    (if is_some (channel_named name b) then Err NameTaken
    else (if nat_le MOST_CHANNELS (length b.channels) then Err TooMany
    else channel_of_geometry name mode (geometry_of size count) b))
    else Err AlreadyStarted

abbrev pub place_free : Option ℕ → SessionBookState → Result ℕ SessionFault
place_free None b = Err NoChannel
place_free (Some place) b = if nat_le MOST_STREAMS (length b.threads) then Err TooMany else Ok place

-- the place of the channel that a thread is added to
abbrev pub thread_place : List ℕ → SessionBookState → Result ℕ SessionFault
thread_place channel b =
    if is_new b.state then place_free (position (bytes_eq channel) (map (λ (c : List ℕ × Channel). c.0) b.channels)) b
    else Err AlreadyStarted

-- the next stream is of the channel at this place
abbrev pub with_thread : ℕ → SessionBookState → SessionBookState
with_thread place b = record b { threads = b.threads ++ place ∷ [] }

abbrev pub with_thread_at : Result ℕ SessionFault → SessionBookState → Result SessionBookState SessionFault
with_thread_at (Ok place) b = Ok (with_thread place b)
with_thread_at (Err fault) b = Err fault

-- a thread of a channel is noted
abbrev pub book_add_thread : List ℕ → SessionBookState → Result SessionBookState SessionFault
book_add_thread channel b = with_thread_at (thread_place channel b) b

-- the name of the channel of stream i
abbrev pub channel_of : ℕ → SessionBookState → Option (List ℕ)
channel_of i b = option_and_then (λ place. option_map (λ (c : List ℕ × Channel). c.0) (slice_get b.channels place))
    (slice_get b.threads i)

-- ---- declared events

-- these events are declared, and no others
abbrev pub book_declare : Declarations → SessionBookState → Result SessionBookState SessionFault
book_declare events b = if is_new b.state then Ok (record b { events = events }) else Err AlreadyStarted

-- ---- starts and stops

abbrev pub book_start_answer : SessionBookState → Result Unit SessionFault
book_start_answer b =
    if is_some b.pending then Err RotationPending
    else (if is_active b.state then Err AlreadyActive
    else Ok tt)

-- the first start begins the first chunk
abbrev pub with_start : ℕ → SessionBookState → SessionBookState
with_start moment b = record b {
  state = Active;
  last = max moment b.last;
  begin = if is_new b.state then max moment b.last else b.begin;
}

abbrev pub book_after_start : ℕ → SessionBookState → SessionBookState
book_after_start moment b = unless_refused (book_start_answer b) (with_start moment b) b

abbrev pub book_stop_answer : SessionBookState → Result Unit SessionFault
book_stop_answer b =
    if is_some b.pending then Err RotationPending
    else (if is_active b.state then Ok tt
    else Err NotActive)

abbrev pub with_stop : SessionBookState → SessionBookState
with_stop b = record b { state = Inactive; rotated = false }

abbrev pub book_after_stop : SessionBookState → SessionBookState
book_after_stop b = unless_refused (book_stop_answer b) (with_stop b) b

-- a stream is switched as the session was
abbrev pub book_switch_answer : Bool → ℕ → SessionBookState → Result Unit SessionFault
book_switch_answer true i b =
    if nat_lt i (length b.threads) then (if is_active b.state then Ok tt else Err NotActive) else Err NoStream
book_switch_answer false i b =
    if nat_lt i (length b.threads) then (if is_inactive b.state then Ok tt else Err AlreadyActive) else Err NoStream

-- ---- rotations

-- in a local session a rotation answers the number of the chunk that it archives
abbrev pub local_rotation : SessionBookState → Result ℕ SessionFault
local_rotation b =
    if is_new b.state then Err NeverStarted
    else (if is_some b.pending then Err RotationPending
    else (if is_inactive b.state && b.rotated then Err AlreadyRotated
    else Ok (length b.archives)))

-- a snapshot session isn't rotated
abbrev pub book_rotate_begin_answer : SessionBookState → Result ℕ SessionFault
book_rotate_begin_answer b = by_session_mode b.mode (local_rotation b) (Err SnapshotMode)

-- the archive that a rotation at this moment makes
abbrev pub archive_ended : ℕ → SessionBookState → Archive
archive_ended moment b = record { id = length b.archives; begin = b.begin; end = max moment b.last }

-- the current chunk ends now, and the next one begins
abbrev pub with_pending : ℕ → SessionBookState → SessionBookState
with_pending moment b = record b {
  rotated = true;
  last = max moment b.last;
  begin = max moment b.last;
  pending = Some (record { archive = archive_ended moment b; cut = 0 });
}

abbrev pub book_after_rotate_begin : ℕ → SessionBookState → SessionBookState
book_after_rotate_begin moment b = unless_refused (book_rotate_begin_answer b) (with_pending moment b) b

abbrev pub cut_in : ℕ → Option Pending → Result ℕ SessionFault
cut_in i None = Err NotPending
cut_in i (Some p) =
    if nat_lt i p.cut then Err NotPending
    else (if nat_lt p.cut i then Err CutMissing
    else Ok p.archive.end)

-- the moment at which stream i is to be cut now: the pending rotation's end
abbrev pub cut_moment : ℕ → SessionBookState → Result ℕ SessionFault
cut_moment i b = if nat_lt i (length b.threads) then cut_in i b.pending else Err NoStream

abbrev pub one_more : Pending → Pending
one_more p = record p { cut = p.cut + 1 }

-- one more stream is cut
abbrev pub with_cut : SessionBookState → SessionBookState
with_cut b = record b { pending = option_map one_more b.pending }

abbrev pub as_noted : Result ℕ SessionFault → Result Unit SessionFault
as_noted (Ok moment) = Ok tt
as_noted (Err fault) = Err fault

-- the cut of stream i is noted, if it is due
abbrev pub book_note_cut_answer : ℕ → SessionBookState → Result Unit SessionFault
book_note_cut_answer i b = as_noted (cut_moment i b)

abbrev pub book_after_note_cut : ℕ → SessionBookState → SessionBookState
book_after_note_cut i b = unless_refused (cut_moment i b) (with_cut b) b

abbrev pub archive_if_cut : ℕ → Option Pending → Result Archive SessionFault
archive_if_cut streams None = Err NotPending
archive_if_cut streams (Some p) = if nat_lt p.cut streams then Err CutMissing else Ok p.archive

-- a rotation that has cut every stream answers the archive that it made
abbrev pub book_rotate_finish_answer : SessionBookState → Result Archive SessionFault
book_rotate_finish_answer b = archive_if_cut (length b.threads) b.pending

abbrev pub with_archive : Result Archive SessionFault → SessionBookState → SessionBookState
with_archive (Ok archive) b = record b { pending = None; archives = b.archives ++ archive ∷ [] }
with_archive (Err fault) b = b

abbrev pub book_after_rotate_finish : SessionBookState → SessionBookState
book_after_rotate_finish b = with_archive (book_rotate_finish_answer b) b

-- the pending rotation has cut stream i
abbrev pub is_cut : ℕ → Option Pending → Bool
is_cut i None = false
is_cut i (Some p) = nat_lt i p.cut

-- how many chunks of stream i are closed: one for each archive, and the pending one if it is cut
abbrev pub chunks_closed : ℕ → SessionBookState → ℕ
chunks_closed i b = length b.archives + (if is_cut i b.pending then 1 else 0)

-- ---- snapshots

-- whether snapshots can be taken: of a snapshot session that was started once
abbrev pub snapshot_allowed : SessionBookState → Result Unit SessionFault
snapshot_allowed b = by_session_mode b.mode (Err NotSnapshotMode) (if is_new b.state then Err NeverStarted else Ok tt)

abbrev pub moment_stored : Result Unit SessionFault → ℕ → SessionBookState → Result ℕ SessionFault
moment_stored (Ok done) moment b = Ok (max moment b.last)
moment_stored (Err fault) moment b = Err fault

-- a snapshot begins: its moment is stored, and answered
abbrev pub book_snapshot_begin_answer : ℕ → SessionBookState → Result ℕ SessionFault
book_snapshot_begin_answer moment b = moment_stored (snapshot_allowed b) moment b

abbrev pub book_after_snapshot_begin : ℕ → SessionBookState → SessionBookState
book_after_snapshot_begin moment b = unless_refused (snapshot_allowed b) (record b { last = max moment b.last }) b

-- whether stream i can be shown
abbrev pub snap_allowed : ℕ → SessionBookState → Result Unit SessionFault
snap_allowed i b = if nat_lt i (length b.threads) then snapshot_allowed b else Err NoStream

-- ---- clears

-- whether the streams of a local session can be cleared: it was started once, and no rotation is pending
abbrev pub local_clear : SessionBookState → Result Unit SessionFault
local_clear b =
    if is_new b.state then Err NeverStarted
    else (if is_some b.pending then Err RotationPending
    else Ok tt)

-- a snapshot session isn't cleared
abbrev pub book_clear_answer : SessionBookState → Result Unit SessionFault
book_clear_answer b = by_session_mode b.mode (local_clear b) (Err SnapshotMode)

-- whether stream i can be cleared
abbrev pub clear_allowed_at : ℕ → SessionBookState → Result Unit SessionFault
clear_allowed_at i b = if nat_lt i (length b.threads) then book_clear_answer b else Err NoStream

-- ---- releases

-- whether archive k is there to be released; the chunk of a pending rotation is no archive yet
abbrev pub book_release_answer : ℕ → SessionBookState → Result Unit SessionFault
book_release_answer k b = if nat_lt k (length b.archives) then Ok tt else Err NoArchive

-- ---- schedules

-- a snapshot session has no schedule
abbrev pub book_schedule_answer : SessionBookState → Result Unit SessionFault
book_schedule_answer b = by_session_mode b.mode (Ok tt) (Err SnapshotMode)

abbrev pub book_after_schedule : Option ScheduleState → SessionBookState → SessionBookState
book_after_schedule schedule b = unless_refused (book_schedule_answer b) (record b { schedule = schedule }) b

-- the schedule by which a local session rotates now: it is active, and no rotation is pending
abbrev pub schedule_in_force : SessionBookState → Option ScheduleState
schedule_in_force b = if is_active b.state && not (is_some b.pending) then by_session_mode b.mode b.schedule None
    else None

-- why a rotation of the current chunk is due, if it is
abbrev pub due_now : ℕ → List ℕ → SessionBookState → Option Cause
due_now now sizes b = option_and_then (λ (schedule : ScheduleState). due_cause schedule b.begin now sizes)
    (schedule_in_force b)
