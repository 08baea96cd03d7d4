-- `consume` by what streams hold, and by their histories.
use Rattle.std.proofs.Common.{ap, ℕ}
use Rattle.tr_console.proofs.WorldAgreement.{StepsAgree, answered-agree, at-agree}
use Rattle.tr_console.specs.Agreement.{WorldsAgree}
use Rattle.tr_replies.specs.LineFaults.{from_step}
use Rattle.tr_replies.specs.Text.{Text}
use Rattle.tr_console.specs.World.{World}
use Rattle.tr_console.specs.commands.Consume.{consume_step, taken_text}
use Rattle.tr_session.proofs.Agreement.{agree-take, same-take}
use Rattle.tr_session.specs.Steps.{session_after_take}
use Rattle.tr_stream.specs.Rules.{Traced, by_history, by_state}
use Rattle.tr_stream.specs.State.{StreamState}

pub consume-agree : (v : World StreamState) (w : World Traced) (name : Text) (stream : ℕ) → WorldsAgree v w
    → StepsAgree (consume_step by_state v name stream) (consume_step by_history w name stream)
consume-agree v w name stream is = at-agree v w name _ _ is (λ a b agree.
    answered-agree v w name taken_text _ _ (session_after_take by_state stream a) (session_after_take by_history stream b)
    is (ap (λ r. from_step r) (same-take a b agree stream)) (agree-take a b agree stream))
