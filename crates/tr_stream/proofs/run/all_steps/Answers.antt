use Rattle.std.proofs.Common.{rules, arith}
use Rattle.std.proofs.lemmas.Grind.{common_steps}
use Rattle.tr_stream.proofs.RunLemmas.{runs-more}
use Rattle.tr_stream.proofs.run.all_steps.Goals as goal

pub events-preserved : goal.events-preserved
events-preserved g c = runs-more _ _ _ _ _ _ _ _ _ _ (search rules) c.event-item.is c.events.invariant c.step.ensures.config
    c.in_ok-step.ensures.step c.in_ok-push.ensures.items

pub returns-clause-stream : goal.returns-clause-stream
returns-clause-stream g c = grind (arith, common_steps)

pub returns-clause-answers : goal.returns-clause-answers
returns-clause-answers g c = grind (arith, common_steps)
