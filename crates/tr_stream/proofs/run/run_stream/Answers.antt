use Rattle.std.proofs.Common.{◌∙◌, ap, subst}
use Rattle.tr_stream.proofs.run.run_stream.Goals as goal
use Rattle.tr_stream.specs.Runs.{history_after_events, history_answers}
use Rattle.tr_stream.specs.StandsFor.{StandsFor}
use Rattle.tr_stream.specs.State.{StreamState}
use Rattle.tr_stream.specs.Steps.{new_history}
use Rattle.tr_stream.specs.declared.config.StreamConfig.{StreamConfig}

pub returns-clause-stream : goal.returns-clause-stream
returns-clause-stream g c =
    subst (λ (k : StreamConfig). StandsFor c.all_steps.new.stream (history_after_events k c.args.events.now new_history))
    (ap (λ (t : StreamState). t.config) c.in_ok-stream.ensures.value) c.in_ok-answers.ensures.stream

pub returns-clause-answers : goal.returns-clause-answers
returns-clause-answers g c =
    c.in_ok-answers.ensures.answers
    ∙ ap (λ (k : StreamConfig). history_answers k c.args.events.now new_history)
    (ap (λ (t : StreamState). t.config) c.in_ok-stream.ensures.value)
