-- Rotations by what streams hold, and by their histories.
use Rattle.std.proofs.Common.{Result, ap, ap₂, ℕ, ◌≡◌}
use Rattle.tr_console.proofs.WorldAgreement.{StepsAgree, answered-agree, at-agree}
use Rattle.tr_console.specs.Agreement.{WorldsAgree}
use Rattle.tr_replies.specs.LineFaults.{from_session, from_step}
use Rattle.tr_replies.specs.Text.{Text}
use Rattle.tr_console.specs.World.{World}
use Rattle.tr_console.specs.commands.Rotate.{archive_named, next_text, rotate_begin_step, rotate_finish_step, rotate_next_step, rotate_step, rotating_text}
use Rattle.tr_replies.specs.OneLine.{archived_text}
use Rattle.tr_session.proofs.Agreement.{agree-begun, agree-finished, agree-next, agree-rotate, same-next, same-rotate}
use Rattle.tr_session.specs.Agreement.{SessionsAgree}
use Rattle.tr_session.specs.Session.{SessionOf}
use Rattle.tr_session.specs.Steps.{session_after_next, session_after_rotate, session_after_rotate_begin, session_after_rotate_finish, session_rotate_answer}
use Rattle.tr_session_book.specs.BookSteps.{book_rotate_begin_answer, book_rotate_finish_answer}
use Rattle.tr_session_book.specs.declared.archive.Archive.{Archive}
use Rattle.tr_session_book.specs.declared.faults.SessionFault.{SessionFault}
use Rattle.tr_stream.specs.Rules.{Traced, by_history, by_state}
use Rattle.tr_stream.specs.State.{StreamState}

pub rotate_begin-agree : (v : World StreamState) (w : World Traced) (name : Text) (moment : ℕ) → WorldsAgree v w
    → StepsAgree (rotate_begin_step v name moment) (rotate_begin_step w name moment)
rotate_begin-agree v w name moment is = at-agree v w name _ _ is (λ a b agree.
    answered-agree v w name rotating_text _ _ (session_after_rotate_begin moment a) (session_after_rotate_begin moment b) is
    (ap (λ k. from_session (book_rotate_begin_answer k)) agree.book) (agree-begun a b agree moment))

pub rotate_next-agree : (v : World StreamState) (w : World Traced) (name : Text) → WorldsAgree v w
    → StepsAgree (rotate_next_step by_state v name) (rotate_next_step by_history w name)
rotate_next-agree v w name is = at-agree v w name _ _ is (λ a b agree.
    answered-agree v w name next_text _ _ (session_after_next by_state a) (session_after_next by_history b) is
    (ap (λ r. from_step r) (same-next a b agree)) (agree-next a b agree))

-- archives have their names from the book
same-named : (a : SessionOf StreamState) (b : SessionOf Traced) (r q : Result Archive SessionFault) → SessionsAgree a b
    → r ≡ q → archive_named a.book.offset r ≡ archive_named b.book.offset q
same-named a b r q is same = ap₂ archive_named (ap (λ k. k.offset) is.book) same

pub rotate_finish-agree : (v : World StreamState) (w : World Traced) (name : Text) → WorldsAgree v w
    → StepsAgree (rotate_finish_step v name) (rotate_finish_step w name)
rotate_finish-agree v w name is = at-agree v w name _ _ is (λ a b agree.
    answered-agree v w name archived_text _ _ (session_after_rotate_finish a) (session_after_rotate_finish b) is
    (ap (λ k. archive_named k.offset (book_rotate_finish_answer k)) agree.book) (agree-finished a b agree))

pub rotate-agree : (v : World StreamState) (w : World Traced) (name : Text) (moment : ℕ) → WorldsAgree v w
    → StepsAgree (rotate_step by_state v name moment) (rotate_step by_history w name moment)
rotate-agree v w name moment is = at-agree v w name _ _ is (λ a b agree.
    answered-agree v w name archived_text _ _ (session_after_rotate by_state moment a) (session_after_rotate by_history moment b) is
    (same-named a b (session_rotate_answer by_state moment a) (session_rotate_answer by_history moment b) agree
    (same-rotate a b agree moment)) (agree-rotate a b agree moment))
