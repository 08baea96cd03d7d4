-- What calls on a book and one of its streams answer, and do.
use Rattle.std.specs.Prelude.{ℕ, Bool, List, length, nat_lt, nat_eq, Option, Some, None, Result, Ok, Err, if◌then◌else◌}
use Rattle.std.specs.Cmp.Lexicographic.{pointwise}
use Rattle.tr_book.specs.Snaps.{SnapState}
use Rattle.tr_session.specs.Steps.{clear_as_session, if_allowed, release_allowed_at, release_as_session}
use Rattle.tr_session.specs.declared.faults.StepFault.{StepFault}
use Rattle.tr_session.specs.declared.faults.StepFault.TheVariants.{Session, Cut}
use Rattle.tr_session_book.specs.Book.{SessionBookState}
use Rattle.tr_session_book.specs.BookSteps.{book_after_note_cut, book_switch_answer, clear_allowed_at, cut_moment, snap_allowed, unless_refused}
use Rattle.tr_session_book.specs.declared.archive.Pending.{Pending}
use Rattle.tr_session_book.specs.declared.channel.Channel.{Channel}
use Rattle.tr_session_book.specs.declared.faults.SessionFault.{SessionFault}
use Rattle.tr_session_book.specs.declared.faults.SessionFault.TheVariants.{Misplaced, NotPending}
use Rattle.tr_stream.specs.State.{StreamState}
use Rattle.tr_stream.specs.StateSteps.{state_after_clear, state_after_cut, state_after_release, state_after_switch, state_clear_answer, state_cut_answer, state_release_answer, state_snap}
use Rattle.tr_stream.specs.declared.answers.Cleared.{Cleared}
use Rattle.tr_stream.specs.declared.answers.CutDone.{CutDone}
use Rattle.tr_stream.specs.declared.answers.CutFault.{CutFault}
use Rattle.tr_stream.specs.declared.answers.Released.{Released}
use Rattle.tr_stream.specs.declared.config.StreamConfig.{StreamConfig}

-- the number of a stream in its session; another trace's stream has none there
abbrev pub number_in : SessionBookState → StreamState → Result ℕ SessionFault
number_in b s = if pointwise nat_eq s.config.uuid b.uuid then Ok s.config.number else Err Misplaced

-- what is answered of the stream of this number, if there is one
abbrev pub at_number : {R : Type 0} → Result ℕ SessionFault → (ℕ → Result R SessionFault) → Result R SessionFault
at_number (Ok i) answer = answer i
at_number (Err fault) answer = Err fault

-- the stream of a new thread
abbrev pub thread_config : SessionBookState → Channel → StreamConfig
thread_config b channel = record {
  uuid = b.uuid;
  number = length b.threads;
  geometry = channel.geometry;
  mode = channel.mode;
  session = b.mode;
}

abbrev pub switch_answer : Bool → SessionBookState → StreamState → Result Unit SessionFault
switch_answer active b s = at_number (number_in b s) (λ i. book_switch_answer active i b)

abbrev pub after_switch : Bool → SessionBookState → StreamState → StreamState
after_switch active b s = unless_refused (switch_answer active b s) (state_after_switch active s) s

-- ---- cuts of the pending rotation

abbrev pub cut_as_step : Result CutDone CutFault → Result CutDone StepFault
cut_as_step (Ok done) = Ok done
cut_as_step (Err fault) = Err (Cut fault)

abbrev pub due_in : SessionBookState → StreamState → Result ℕ SessionFault
due_in b s = at_number (number_in b s) (λ i. cut_moment i b)

abbrev pub cut_when : Result ℕ SessionFault → StreamState → Result CutDone StepFault
cut_when (Ok moment) s = cut_as_step (state_cut_answer moment s)
cut_when (Err fault) s = Err (Session fault)

abbrev pub cut_answer : SessionBookState → StreamState → Result CutDone StepFault
cut_answer b s = cut_when (due_in b s) s

abbrev pub stream_after_cut_when : Result ℕ SessionFault → StreamState → StreamState
stream_after_cut_when (Ok moment) s = state_after_cut moment s
stream_after_cut_when (Err fault) s = s

abbrev pub stream_after_cut : SessionBookState → StreamState → StreamState
stream_after_cut b s = stream_after_cut_when (due_in b s) s

-- the cut is noted if it was made
abbrev pub book_after_cut : SessionBookState → StreamState → SessionBookState
book_after_cut b s = unless_refused (cut_answer b s) (book_after_note_cut s.config.number b) b

-- which stream is cut next, if one is left
abbrev pub next_of : ℕ → Option Pending → Result (Option ℕ) SessionFault
next_of streams None = Err NotPending
next_of streams (Some p) = Ok (if nat_lt p.cut streams then Some p.cut else None)

abbrev pub next_answer : SessionBookState → Result (Option ℕ) SessionFault
next_answer b = next_of (length b.threads) b.pending

-- ---- clears, releases and looks

abbrev pub clear_allowed : SessionBookState → StreamState → Result Unit SessionFault
clear_allowed b s = at_number (number_in b s) (λ i. clear_allowed_at i b)

abbrev pub clear_answer : SessionBookState → StreamState → Result Cleared SessionFault
clear_answer b s = if_allowed (clear_allowed b s) (clear_as_session (state_clear_answer s))

abbrev pub after_clear : SessionBookState → StreamState → StreamState
after_clear b s = unless_refused (clear_allowed b s) (state_after_clear s) s

abbrev pub release_allowed : ℕ → SessionBookState → StreamState → Result Unit SessionFault
release_allowed k b s = at_number (number_in b s) (λ i. release_allowed_at i k b)

abbrev pub release_answer : ℕ → SessionBookState → StreamState → Result Released SessionFault
release_answer k b s = if_allowed (release_allowed k b s) (release_as_session (state_release_answer k s))

abbrev pub after_release : ℕ → SessionBookState → StreamState → StreamState
after_release k b s = unless_refused (release_allowed k b s) (state_after_release k s) s

abbrev pub look_allowed : SessionBookState → StreamState → Result Unit SessionFault
look_allowed b s = at_number (number_in b s) (λ i. snap_allowed i b)

abbrev pub look_answer : ℕ → SessionBookState → StreamState → Result SnapState SessionFault
look_answer moment b s = if_allowed (look_allowed b s) (Ok (state_snap moment s))
