-- `release` by what streams hold, and by their histories.
use Rattle.std.proofs.Common.{ap, ℕ}
use Rattle.tr_console.proofs.WorldAgreement.{StepsAgree, answered-agree, at-agree}
use Rattle.tr_console.specs.Agreement.{WorldsAgree}
use Rattle.tr_replies.specs.LineFaults.{from_session}
use Rattle.tr_replies.specs.Text.{Text}
use Rattle.tr_console.specs.World.{World}
use Rattle.tr_console.specs.commands.Release.{release_step}
use Rattle.tr_replies.specs.OneLine.{released_text}
use Rattle.tr_session.proofs.ReleaseAgreement.{agree-release_all, same-release_all}
use Rattle.tr_session.specs.Steps.{session_after_release_all}
use Rattle.tr_stream.specs.Rules.{Traced, by_history, by_state}
use Rattle.tr_stream.specs.State.{StreamState}

pub release-agree : (v : World StreamState) (w : World Traced) (name : Text) (archive : ℕ) → WorldsAgree v w
    → StepsAgree (release_step by_state v name archive) (release_step by_history w name archive)
release-agree v w name archive is = at-agree v w name _ _ is (λ a b agree.
    answered-agree v w name (released_text archive) _ _ (session_after_release_all by_state archive a)
    (session_after_release_all by_history archive b) is
    (ap (λ r. from_session r) (same-release_all archive a b agree)) (agree-release_all archive a b agree))
