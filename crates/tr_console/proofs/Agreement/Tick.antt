-- `tick` by what streams hold, and by their histories.
use Rattle.std.proofs.Common.{◌∙◌, Err, Ok, Result, ap, refl, ℕ, ◌≡◌}
use Rattle.tr_console.proofs.WorldAgreement.{StepsAgree, answered-agree, at-agree}
use Rattle.tr_console.specs.Agreement.{WorldsAgree}
use Rattle.tr_replies.specs.Text.{Text}
use Rattle.tr_console.specs.World.{World}
use Rattle.tr_console.specs.commands.Tick.{tick_step, tick_text, tick_told}
use Rattle.tr_console.specs.declared.commands.tick.TickTold.TheVariants as told
use Rattle.tr_console.specs.declared.commands.tick.TickTold.{TickTold}
use Rattle.tr_replies.specs.declared.line_fault.LineFault.{LineFault}
use Rattle.tr_session.proofs.Agreement.{agree-tick, same-tick}
use Rattle.tr_session.specs.Agreement.{SessionsAgree}
use Rattle.tr_session.specs.Session.{SessionOf}
use Rattle.tr_session.specs.Steps.{session_after_tick, session_tick_answer}
use Rattle.tr_session.specs.declared.ticks.Ticked.TheVariants as ticked
use Rattle.tr_session.specs.declared.ticks.Ticked.{Ticked}
use Rattle.tr_session_book.specs.Book.{SessionBookState}
use Rattle.tr_session_book.specs.declared.faults.SessionFault.{SessionFault}
use Rattle.tr_stream.specs.Rules.{Traced, by_history, by_state}
use Rattle.tr_stream.specs.State.{StreamState}

pub tick-agree : (v : World StreamState) (w : World Traced) (name : Text) (moment : ℕ) → WorldsAgree v w
    → StepsAgree (tick_step by_state v name moment) (tick_step by_history w name moment)
tick-agree v w name moment is = at-agree v w name _ _ is (λ a b agree.
    answered-agree v w name tick_text _ _ (session_after_tick by_state moment a) (session_after_tick by_history moment b) is
    (same-told a b (session_tick_answer by_state moment a) (session_tick_answer by_history moment b) agree
    (same-tick a b agree moment)) (agree-tick a b agree moment))
  where
    told-alike : (a : SessionOf StreamState) (b : SessionOf Traced) (r : Result Ticked SessionFault) → a.book ≡ b.book
        → tick_told a r ≡ tick_told b r
    told-alike a b (Ok ticked.Idle) same = refl
    told-alike a b (Ok (ticked.Rotated cause archive)) same =
        ap (λ (c : SessionBookState).
        (let r : Result TickTold LineFault =
        Ok (told.Rotated cause (record { archive = archive; offset = c.offset })) in r)) same
    told-alike a b (Err why) same = refl

    same-told : (a : SessionOf StreamState) (b : SessionOf Traced) (r q : Result Ticked SessionFault) → SessionsAgree a b
        → r ≡ q → tick_told a r ≡ tick_told b q
    same-told a b r q agree same = told-alike a b r agree.book ∙ ap (tick_told b) same
