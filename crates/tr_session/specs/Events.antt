-- The events of a session: what each answers, and what it does to the book and to the streams.
use Rattle.std.specs.Prelude.{◌≡◌, ℕ, Bool, true, false, IsOk, List, [], ◌∷◌, ◌++◌, Result, Ok, Err, if◌then◌else◌, ◌==◌}
use Rattle.tr_session_book.specs.Book.{SessionBookState}
use Rattle.tr_session_book.specs.BookSteps.{unless_refused, book_start_answer, book_after_start, book_stop_answer, book_after_stop, book_switch_answer, book_rotate_begin_answer, book_after_rotate_begin, cut_moment, book_after_note_cut, book_rotate_finish_answer, book_after_rotate_finish, snap_allowed, clear_allowed_at}
use Rattle.tr_session.specs.Session.{SessionOf}
use Rattle.tr_events.specs.Events.{fits_declared}
use Rattle.tr_session.specs.Steps.{ClearsPackets, ReleasesPackets, ShowsPackets, session_after_rotate_begin, session_after_rotate_finish, session_offer_answer, session_after_offer, session_take_answer, session_after_take, session_cut_answer, session_after_cut, session_clear_answer, session_after_clear, release_allowed_at, session_release_answer, session_after_release, session_snap_answer, session_after_switch}
use Rattle.tr_session.specs.declared.events.Answer.{Answer}
use Rattle.tr_session.specs.declared.events.Answer.TheVariants as answer
use Rattle.tr_session.specs.declared.events.Event.{Event}
use Rattle.tr_session.specs.declared.events.Event.TheVariants.{Offer, Take, Cut, Clear, Release, Snap, Start, Stop, SessionStart, SessionStop, RotateBegin, RotateFinish}
use Rattle.tr_session_book.specs.declared.faults.SessionFault.{SessionFault}
use Rattle.tr_session_book.specs.declared.faults.SessionFault.TheVariants.{NoMemory}
use Rattle.tr_session.specs.declared.faults.StepFault.TheVariants as step
use Rattle.tr_stream.specs.Rules.{StreamRules}
use Rattle.tr_stream.specs.declared.answers.CutFault.TheVariants as cut_fault
use Rattle.tr_stream.specs.declared.answers.TakeFault.TheVariants as take_fault
use Rattle.tr_stream.specs.declared.events.StreamEvent.{StreamEvent}
use Rattle.tr_stream.specs.declared.events.StreamEvent.TheVariants as stream

-- what an event answers
abbrev pub session_answer : {S A : Type 0} → StreamRules S → Event A → SessionOf S → Answer A
session_answer rules (Offer i moment id payload) s = answer.Offer (session_offer_answer rules i moment id payload s)
session_answer rules (Take i) s = answer.Take (session_take_answer rules i s)
session_answer rules (Cut i) s = answer.Cut (session_cut_answer rules i s)
session_answer rules (Clear i) s = answer.Clear (session_clear_answer rules i s)
session_answer rules (Release i k) s = answer.Release (session_release_answer rules i k s)
session_answer rules (Snap i moment) s = answer.Snap (session_snap_answer rules i moment s)
session_answer rules (Start i) s = answer.Start (book_switch_answer true i s.book)
session_answer rules (Stop i) s = answer.Stop (book_switch_answer false i s.book)
session_answer rules (SessionStart moment) s = answer.SessionStart (book_start_answer s.book)
session_answer rules SessionStop s = answer.SessionStop (book_stop_answer s.book)
session_answer rules (RotateBegin moment) s = answer.RotateBegin (book_rotate_begin_answer s.book)
session_answer rules RotateFinish s = answer.RotateFinish (book_rotate_finish_answer s.book)

-- an answer that an allocation failed, to an event for which the rule gives this other answer: it is of the same kind, with
-- the fault of that call, and the rule doesn't refuse
abbrev pub MayWantMemory : {A : Type 0} → Answer A → Answer A → Type 0
MayWantMemory (answer.Take wanting) (answer.Take rule) = (wanting ≡ Err (step.Take take_fault.NoMemory)) × IsOk rule
MayWantMemory (answer.Cut wanting) (answer.Cut rule) = (wanting ≡ Err (step.Cut cut_fault.NoMemory)) × IsOk rule
MayWantMemory (answer.Clear wanting) (answer.Clear rule) = (wanting ≡ Err NoMemory) × ClearsPackets rule
MayWantMemory (answer.Release wanting) (answer.Release rule) = (wanting ≡ Err NoMemory) × ReleasesPackets rule
MayWantMemory (answer.Snap wanting) (answer.Snap rule) = (wanting ≡ Err NoMemory) × ShowsPackets rule
MayWantMemory (answer.RotateBegin wanting) (answer.RotateBegin rule) = (wanting ≡ Err NoMemory) × IsOk rule
MayWantMemory _ _ = ⊥

-- the session after an event
abbrev pub session_after_event : {S A : Type 0} → StreamRules S → Event A → SessionOf S → SessionOf S
session_after_event rules (Offer i moment id payload) s = session_after_offer rules i moment id payload s
session_after_event rules (Take i) s = session_after_take rules i s
session_after_event rules (Cut i) s = session_after_cut rules i s
session_after_event rules (Clear i) s = session_after_clear rules i s
session_after_event rules (Release i k) s = session_after_release rules i k s
session_after_event rules (Snap i moment) s = s
session_after_event rules (Start i) s = session_after_switch rules true i s
session_after_event rules (Stop i) s = session_after_switch rules false i s
session_after_event rules (SessionStart moment) s = record s { book = book_after_start moment s.book }
session_after_event rules SessionStop s = record s { book = book_after_stop s.book }
session_after_event rules (RotateBegin moment) s = session_after_rotate_begin moment s
session_after_event rules RotateFinish s = session_after_rotate_finish s

-- after a list of events, and what each of them answers
abbrev pub session_after_events : {S A : Type 0} → StreamRules S → List (Event A) → SessionOf S → SessionOf S
session_after_events rules [] s = s
session_after_events rules (e ∷ es) s = session_after_events rules es (session_after_event rules e s)

abbrev pub session_answers : {S A : Type 0} → StreamRules S → List (Event A) → SessionOf S → List (Answer A)
session_answers rules [] s = []
session_answers rules (e ∷ es) s = session_answer rules e s ∷ session_answers rules es (session_after_event rules e s)

-- ---- what a stream sees of a session's events: its own steps

-- the book after an event, whatever the streams do
abbrev pub book_after_event : {A : Type 0} → Event A → SessionBookState → SessionBookState
book_after_event (Offer i moment id payload) b = b
book_after_event (Take i) b = b
book_after_event (Cut i) b = book_after_note_cut i b
book_after_event (Clear i) b = b
book_after_event (Release i k) b = b
book_after_event (Snap i moment) b = b
book_after_event (Start i) b = b
book_after_event (Stop i) b = b
book_after_event (SessionStart moment) b = book_after_start moment b
book_after_event SessionStop b = book_after_stop b
book_after_event (RotateBegin moment) b = book_after_rotate_begin moment b
book_after_event RotateFinish b = book_after_rotate_finish b

-- a cut that is due, at its moment
abbrev pub cut_let_through : {A : Type 0} → Result ℕ SessionFault → List (StreamEvent A)
cut_let_through (Ok moment) = stream.Cut moment ∷ []
cut_let_through (Err fault) = []

-- the steps that an event is for its own stream
abbrev pub let_through : {A : Type 0} → Event A → SessionBookState → List (StreamEvent A)
let_through (Offer i moment id payload) b =
    if fits_declared b.events id payload then stream.Offer moment id payload ∷ [] else []
let_through (Take i) b = stream.Take ∷ []
let_through (Cut i) b = cut_let_through (cut_moment i b)
let_through (Clear i) b = unless_refused (clear_allowed_at i b) (stream.Clear ∷ []) []
let_through (Release i k) b = unless_refused (release_allowed_at i k b) (stream.Release k ∷ []) []
let_through (Snap i moment) b = unless_refused (snap_allowed i b) (stream.Peek moment ∷ []) []
let_through (Start i) b = unless_refused (book_switch_answer true i b) (stream.Start ∷ []) []
let_through (Stop i) b = unless_refused (book_switch_answer false i b) (stream.Stop ∷ []) []
let_through (SessionStart moment) b = []
let_through SessionStop b = []
let_through (RotateBegin moment) b = []
let_through RotateFinish b = []

-- the event is one of stream i
abbrev pub is_of : {A : Type 0} → ℕ → Event A → Bool
is_of i (Offer j moment id payload) = i == j
is_of i (Take j) = i == j
is_of i (Cut j) = i == j
is_of i (Clear j) = i == j
is_of i (Release j k) = i == j
is_of i (Snap j moment) = i == j
is_of i (Start j) = i == j
is_of i (Stop j) = i == j
is_of i (SessionStart moment) = false
is_of i SessionStop = false
is_of i (RotateBegin moment) = false
is_of i RotateFinish = false

-- the own steps of stream i: its events that the session lets through, a cut at the pending rotation's end
abbrev pub own_steps : {A : Type 0} → ℕ → List (Event A) → SessionBookState → List (StreamEvent A)
own_steps i [] b = []
own_steps i (e ∷ es) b = (if is_of i e then let_through e b else []) ++ own_steps i es (book_after_event e b)
