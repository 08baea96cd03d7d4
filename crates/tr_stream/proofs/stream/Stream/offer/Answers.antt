use Rattle.std.proofs.Common.{rules, arith}
use Rattle.std.proofs.lemmas.Grind.{common_steps}
use Rattle.tr_stream.proofs.CallLemmas.{step-accepted}
use Rattle.tr_stream.proofs.stream.Stream.offer.Goals as goal

pub returns-clause-step : goal.returns-clause-step
returns-clause-step g c = λ h is.
    step-accepted c.args.self.now c.accept.new.self h c.args.moment c.args.id c.args.payload.now c.accept.result
    c.refusal.ensures.sound.made is (search rules) c.accept.ensures.answer c.accept.ensures.after

pub returns-in-Some-clause-step : goal.returns-in-Some-clause-step
returns-in-Some-clause-step g c = grind (arith, common_steps)
