-- What the words that the program is given ask for.
use Rattle.std.proofs.Common.{◌≡◌, ◌∙◌, ap, refl, List, Option, option_and_then}
use Rattle.clap.proofs.OnLiterals.{clap_on_literals}
use Rattle.clap.specs.Words.{App, Row, Text}
use Rattle.tr_command.specs.Language.{IsSimple, entered_by}
use Rattle.tr_command.specs.Invocation.{job_named, job_of, program_app}

pub program-simple : IsSimple program_app
unfolding clap_on_literals
program-simple = (refl, refl)

-- what they ask for by the command that they enter
pub job_of-entered : (app : App) (words : List Text) (entered : Option (Text × List Row)) → app ≡ program_app → entered ≡ entered_by app words
    → option_and_then (λ p. job_named p.0 p.1) entered ≡ job_of words
unfolding job_of
job_of-entered app words entered shape is = ap (option_and_then (λ (p : Text × List Row). job_named p.0 p.1))
    (is ∙ ap (λ (a : App). entered_by a words) shape)
