-- `channel`: a channel of the session of a name.
use Rattle.std.specs.Prelude.{ℕ, ◌++◌, codes, if◌then◌else◌}
use Rattle.tr_console.specs.Steps.{Step, addition_step, refusal_step, session_step}
use Rattle.tr_replies.specs.Text.{Text}
use Rattle.tr_console.specs.World.{World}
use Rattle.tr_replies.specs.declared.line_fault.LineFault.TheVariants.{BadName}
use Rattle.tr_session.specs.Steps.{session_add_channel}
use Rattle.tr_terms.specs.Names.{is_name}
use Rattle.tr_terms.specs.declared.mode.Mode.{Mode}

abbrev pub channel_step : {S : Type 0} → World S → Text → Text → ℕ → ℕ → Mode → Step S
channel_step w name channel size count mode =
    session_step w name (λ s. if is_name channel then addition_step w name (codes "channel " ++ channel)
    (session_add_channel channel size count mode s) else refusal_step w BadName)
