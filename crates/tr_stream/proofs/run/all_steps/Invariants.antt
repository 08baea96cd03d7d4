use Rattle.std.proofs.Common.{take}
use Rattle.tr_stream.proofs.RunLemmas.{RunsSo}
use Rattle.tr_stream.proofs.run.all_steps.Given as goal
use Rattle.tr_stream.specs.Steps.{new_history}

-- the calls so far
abbrev pub invariant-events : goal.invariant-events
invariant-events g l = RunsSo l.fn.stream.config (take l.event-index l.events) new_history l.stream l.answers.items
