use Rattle.tr_session.proofs.RunLemmas.{RunsSo}
use Rattle.tr_session.proofs.run.run_session.Given as goal
use Rattle.tr_stream.specs.Rules.{by_state}

-- the events so far
abbrev pub invariant-events : goal.invariant-events
invariant-events g l = RunsSo by_state l.events l.initial.session l.event-index l.session l.answers.items
