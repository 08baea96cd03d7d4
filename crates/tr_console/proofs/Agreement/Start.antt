-- `start` and `stop` by what streams hold, and by their histories.
use Rattle.std.proofs.Common.{ap, ℕ}
use Rattle.tr_console.proofs.WorldAgreement.{StepsAgree, answered-agree, at-agree}
use Rattle.tr_console.specs.Agreement.{WorldsAgree}
use Rattle.tr_replies.specs.LineFaults.{from_session}
use Rattle.tr_replies.specs.Text.{Text}
use Rattle.tr_console.specs.World.{World}
use Rattle.tr_console.specs.commands.Start.{start_step, stop_step}
use Rattle.tr_replies.specs.OneLine.{started_text, stopped_text}
use Rattle.tr_session.proofs.Agreement.{agree-started, agree-stopped}
use Rattle.tr_session.specs.Steps.{session_after_start, session_after_stop}
use Rattle.tr_session_book.specs.BookSteps.{book_start_answer, book_stop_answer}
use Rattle.tr_stream.specs.Rules.{Traced, by_history, by_state}
use Rattle.tr_stream.specs.State.{StreamState}

pub start-agree : (v : World StreamState) (w : World Traced) (name : Text) (moment : ℕ) → WorldsAgree v w
    → StepsAgree (start_step by_state v name moment) (start_step by_history w name moment)
start-agree v w name moment is = at-agree v w name _ _ is (λ a b agree.
    answered-agree v w name started_text _ _ (session_after_start by_state moment a)
    (session_after_start by_history moment b) is (ap (λ k. from_session (book_start_answer k)) agree.book)
    (agree-started a b agree moment))

pub stop-agree : (v : World StreamState) (w : World Traced) (name : Text) → WorldsAgree v w
    → StepsAgree (stop_step by_state v name) (stop_step by_history w name)
stop-agree v w name is = at-agree v w name _ _ is (λ a b agree.
    answered-agree v w name stopped_text _ _ (session_after_stop by_state a) (session_after_stop by_history b) is
    (ap (λ k. from_session (book_stop_answer k)) agree.book) (agree-stopped a b agree))
