-- `snapshot` by what streams hold, and by their histories.
use Rattle.std.proofs.Common.{ap, ℕ}
use Rattle.tr_console.proofs.WorldAgreement.{StepsAgree, answered-agree, at-agree}
use Rattle.tr_console.specs.Agreement.{WorldsAgree}
use Rattle.tr_replies.specs.LineFaults.{from_session}
use Rattle.tr_replies.specs.Text.{Text}
use Rattle.tr_console.specs.World.{World}
use Rattle.tr_console.specs.commands.Snapshot.{snapshot_step, snapshot_text}
use Rattle.tr_session.proofs.Agreement.{agree-snapshot, same-snapshot}
use Rattle.tr_session.specs.Steps.{session_after_snapshot}
use Rattle.tr_stream.specs.Rules.{Traced, by_history, by_state}
use Rattle.tr_stream.specs.State.{StreamState}

pub snapshot-agree : (v : World StreamState) (w : World Traced) (name : Text) (moment : ℕ) → WorldsAgree v w
    → StepsAgree (snapshot_step by_state v name moment) (snapshot_step by_history w name moment)
snapshot-agree v w name moment is = at-agree v w name _ _ is (λ a b agree.
    answered-agree v w name snapshot_text _ _ (session_after_snapshot moment a) (session_after_snapshot moment b) is
    (ap (λ r. from_session r) (same-snapshot a b agree moment)) (agree-snapshot a b agree moment))
