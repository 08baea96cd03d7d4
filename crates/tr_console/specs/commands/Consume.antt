-- `consume`: a take of the oldest packet of a stream.
use Rattle.std.specs.Fmt.{decimal}
use Rattle.std.specs.Prelude.{codes, ℕ, ◌++◌}
use Rattle.tr_replies.specs.LineFaults.{from_step}
use Rattle.tr_console.specs.Steps.{Step, call_step, session_step}
use Rattle.tr_replies.specs.Text.{Text}
use Rattle.tr_console.specs.World.{World}
use Rattle.tr_session.specs.Steps.{session_after_take, session_take_answer}
use Rattle.tr_stream.specs.Rules.{StreamRules}
use Rattle.tr_stream.specs.declared.answers.Taken.{Taken}

-- what a take took
abbrev pub taken_text : Taken → Text
taken_text taken = codes "taken " ++ (decimal taken.seq ++
    (codes " records " ++ (decimal taken.count ++ (codes " chunk " ++ decimal taken.chunk))))

abbrev pub consume_step : {S : Type 0} → StreamRules S → World S → Text → ℕ → Step S
consume_step rules w name stream =
    session_step w name (λ s. call_step w name taken_text (from_step (session_take_answer rules stream s))
    (session_after_take rules stream s))
