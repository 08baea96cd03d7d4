-- `start` and `stop`.
use Rattle.std.specs.Prelude.{ℕ}
use Rattle.tr_replies.specs.LineFaults.{from_session}
use Rattle.tr_console.specs.Steps.{Step, call_step, session_step}
use Rattle.tr_replies.specs.OneLine.{started_text, stopped_text}
use Rattle.tr_replies.specs.Text.{Text}
use Rattle.tr_console.specs.World.{World}
use Rattle.tr_session.specs.Steps.{session_after_start, session_after_stop}
use Rattle.tr_session_book.specs.BookSteps.{book_start_answer, book_stop_answer}
use Rattle.tr_stream.specs.Rules.{StreamRules}

abbrev pub start_step : {S : Type 0} → StreamRules S → World S → Text → ℕ → Step S
start_step rules w name moment =
    session_step w name (λ s. call_step w name started_text (from_session (book_start_answer s.book))
    (session_after_start rules moment s))

abbrev pub stop_step : {S : Type 0} → StreamRules S → World S → Text → Step S
stop_step rules w name = session_step w name (λ s. call_step w name stopped_text
    (from_session (book_stop_answer s.book))
    (session_after_stop rules s))
