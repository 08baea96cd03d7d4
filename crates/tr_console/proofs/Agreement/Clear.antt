-- `clear` by what streams hold, and by their histories.
use Rattle.std.proofs.Common.{ap}
use Rattle.tr_console.proofs.WorldAgreement.{StepsAgree, answered-agree, at-agree}
use Rattle.tr_console.specs.Agreement.{WorldsAgree}
use Rattle.tr_replies.specs.LineFaults.{from_session}
use Rattle.tr_replies.specs.Text.{Text}
use Rattle.tr_console.specs.World.{World}
use Rattle.tr_console.specs.commands.Clear.{clear_step}
use Rattle.tr_replies.specs.OneLine.{cleared_text}
use Rattle.tr_session.proofs.ClearAgreement.{agree-clear_all, same-clear_all}
use Rattle.tr_session.specs.Steps.{session_after_clear_all}
use Rattle.tr_stream.specs.Rules.{Traced, by_history, by_state}
use Rattle.tr_stream.specs.State.{StreamState}

pub clear-agree : (v : World StreamState) (w : World Traced) (name : Text) → WorldsAgree v w
    → StepsAgree (clear_step by_state v name) (clear_step by_history w name)
clear-agree v w name is = at-agree v w name _ _ is (λ a b agree.
    answered-agree v w name cleared_text _ _ (session_after_clear_all by_state a) (session_after_clear_all by_history b) is
    (ap (λ r. from_session r) (same-clear_all a b agree)) (agree-clear_all a b agree))
