-- `fate` by what streams hold, and by their histories.
use Rattle.std.proofs.Common.{[], ap, is_err, ℕ, ◌++◌, ◌∷◌}
use Rattle.tr_console.proofs.WorldAgreement.{StepsAgree, at-agree}
use Rattle.tr_console.specs.Agreement.{WorldsAgree}
use Rattle.tr_replies.specs.LineFaults.{from_step}
use Rattle.tr_console.specs.Steps.{line_of}
use Rattle.tr_replies.specs.Text.{Text}
use Rattle.tr_console.specs.World.{World}
use Rattle.tr_console.specs.commands.Fate.{fate_step}
use Rattle.tr_replies.specs.OneLine.{fate_text}
use Rattle.tr_session.proofs.Agreement.{same-fate}
use Rattle.tr_stream.specs.Rules.{Traced, by_history, by_state}
use Rattle.tr_stream.specs.State.{StreamState}

pub fate-agree : (v : World StreamState) (w : World Traced) (name : Text) (stream serial : ℕ) → WorldsAgree v w
    → StepsAgree (fate_step by_state v name stream serial) (fate_step by_history w name stream serial)
fate-agree v w name stream serial is = at-agree v w name _ _ is (λ a b agree.
    let same = same-fate a b agree stream serial in
    record { world = is; text = ap (λ r. line_of fate_text (from_step r) ++ 10 ∷ []) same; is_refused = ap (λ r. is_err (from_step r)) same })
