-- What a session keeps beside its streams.
use Rattle.std.specs.Prelude.{ℕ, ℤ, Bool, false, List, [], Option, None}
use Rattle.tr_events.specs.Events.{Declarations, nothing}
use Rattle.tr_schedule.specs.Schedules.{ScheduleState}
use Rattle.tr_session_book.specs.declared.archive.Archive.{Archive}
use Rattle.tr_session_book.specs.declared.archive.Pending.{Pending}
use Rattle.tr_session_book.specs.declared.channel.Channel.{Channel}
use Rattle.tr_session_book.specs.declared.state.State.{State}
use Rattle.tr_session_book.specs.declared.state.State.TheVariants.{New}
use Rattle.tr_terms.specs.declared.session_mode.SessionMode.{SessionMode}

pub record SessionBookState : Type 0 where
  -- the trace's identifier, the minutes that its clock is ahead of UTC, and what becomes of packets
  pub uuid : List ℕ
  pub offset : ℤ
  pub mode : SessionMode
  pub state : State
  -- whether a rotation was begun since the last stop
  pub rotated : Bool
  -- the last moment that was stored, and the one at which the current chunk began: 0 before the first start
  pub last : ℕ
  pub begin : ℕ
  -- the channels by name, in order of addition; for each stream, the place of its channel
  pub channels : List (List ℕ × Channel)
  pub threads : List ℕ
  pub pending : Option Pending
  pub archives : List Archive
  -- when rotations are due
  pub schedule : Option ScheduleState
  -- what is declared
  pub events : Declarations

abbrev pub session_book_state : List ℕ → ℤ → SessionMode → State → Bool → ℕ → ℕ → List (List ℕ × Channel) → List ℕ
    → Option Pending → List Archive → Option ScheduleState → Declarations → SessionBookState
session_book_state uuid offset mode state rotated last begin channels threads pending archives schedule events = record {
  uuid = uuid;
  offset = offset;
  mode = mode;
  state = state;
  rotated = rotated;
  last = last;
  begin = begin;
  channels = channels;
  threads = threads;
  pending = pending;
  archives = archives;
  schedule = schedule;
  events = events;
}

-- before anything is added
abbrev pub new_book : List ℕ → ℤ → SessionMode → SessionBookState
new_book uuid offset mode = session_book_state uuid offset mode New false 0 0 [] [] None [] None nothing
