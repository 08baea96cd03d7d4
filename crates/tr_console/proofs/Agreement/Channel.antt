-- `channel` by what streams hold, and by their histories.
use Rattle.std.proofs.Common.{Bool, codes, cond, false, refl, true, ℕ, ◌++◌, ◌≡◌}
use Rattle.tr_console.proofs.WorldAgreement.{StepsAgree, at-agree, settled-agree}
use Rattle.tr_console.specs.Agreement.{WorldsAgree}
use Rattle.tr_console.specs.Steps.{addition_step, refusal_step}
use Rattle.tr_replies.specs.Text.{Text}
use Rattle.tr_console.specs.World.{World}
use Rattle.tr_console.specs.commands.Channel.{channel_step}
use Rattle.tr_replies.specs.declared.line_fault.LineFault.TheVariants.{BadName}
use Rattle.tr_session.proofs.Agreement.{agree-channel}
use Rattle.tr_session.specs.Agreement.{SessionsAgree}
use Rattle.tr_session.specs.Session.{SessionOf}
use Rattle.tr_session.specs.Steps.{session_add_channel}
use Rattle.tr_stream.specs.Rules.{Traced}
use Rattle.tr_stream.specs.State.{StreamState}
use Rattle.tr_terms.specs.Names.{is_name}
use Rattle.tr_terms.specs.declared.mode.Mode.{Mode}

pub channel-agree : (v : World StreamState) (w : World Traced) (name channel : Text) (size count : ℕ) (mode : Mode)
    → WorldsAgree v w → StepsAgree (channel_step v name channel size count mode)
    (channel_step w name channel size count mode)
channel-agree v w name channel size count mode is = at-agree v w name _ _ is (λ a b agree. go (is_name channel) refl a b agree)
  where
    go : (is_named : Bool) → is_name channel ≡ is_named → (a : SessionOf StreamState) (b : SessionOf Traced)
        → SessionsAgree a b → StepsAgree (cond (is_name channel)
        (addition_step v name (codes "channel " ++ channel) (session_add_channel channel size count mode a))
        (refusal_step v BadName)) (cond (is_name channel) (addition_step w name (codes "channel " ++ channel)
        (session_add_channel channel size count mode b)) (refusal_step w BadName))
    go false x a b agree = rw x (record { world = is; text = refl; is_refused = refl })
    go true x a b agree = rw x (settled-agree v w name (codes "channel " ++ channel)
        (session_add_channel channel size count mode a) (session_add_channel channel size count mode b) is
        (agree-channel a b agree channel size count mode))
