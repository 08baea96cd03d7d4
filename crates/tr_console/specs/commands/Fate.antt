-- `fate`: what became of an offer.
use Rattle.std.specs.Prelude.{ℕ}
use Rattle.tr_replies.specs.LineFaults.{from_step}
use Rattle.tr_console.specs.Steps.{Step, question_step, session_step}
use Rattle.tr_replies.specs.OneLine.{fate_text}
use Rattle.tr_replies.specs.Text.{Text}
use Rattle.tr_console.specs.World.{World}
use Rattle.tr_session.specs.Steps.{session_fate_answer}
use Rattle.tr_stream.specs.Rules.{StreamRules}
use Rattle.tr_stream.specs.declared.fate.Fate.TheVariants as fate

abbrev pub fate_step : {S : Type 0} → StreamRules S → World S → Text → (stream serial : ℕ) → Step S
fate_step rules w name stream serial =
    session_step w name (λ s. question_step w fate_text (from_step (session_fate_answer rules stream serial s)))
