-- `offer` by what streams hold, and by their histories.
use Rattle.std.proofs.Common.{ap, ℕ}
use Rattle.tr_console.proofs.WorldAgreement.{StepsAgree, answered-agree, at-agree}
use Rattle.tr_console.specs.Agreement.{WorldsAgree}
use Rattle.tr_replies.specs.LineFaults.{from_step}
use Rattle.tr_replies.specs.Text.{Text}
use Rattle.tr_console.specs.World.{World}
use Rattle.tr_console.specs.commands.Offer.{offer_step, offered_text, payload_of}
use Rattle.tr_session.proofs.Agreement.{agree-offer, same-offer}
use Rattle.tr_session.specs.Steps.{session_after_offer}
use Rattle.tr_stream.specs.Rules.{Traced, by_history, by_state}
use Rattle.tr_stream.specs.State.{StreamState}

pub offer-agree : (v : World StreamState) (w : World Traced) (name : Text) (stream moment id : ℕ) (text : Text) (fill : ℕ)
    → WorldsAgree v w → StepsAgree (offer_step by_state v name stream moment id text fill)
    (offer_step by_history w name stream moment id text fill)
offer-agree v w name stream moment id text fill is = at-agree v w name _ _ is (λ a b agree.
    let payload = payload_of text fill in
    answered-agree v w name offered_text _ _ (session_after_offer by_state stream moment id payload a)
    (session_after_offer by_history stream moment id payload b) is
    (ap (λ r. from_step r) (same-offer a b agree stream moment id payload)) (agree-offer a b agree stream moment id payload))
