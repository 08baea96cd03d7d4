use Rattle.std.proofs.Common.{rules, sym, arith}
use Rattle.std.proofs.lemmas.Grind.{common_steps}
use Rattle.tr_stream.proofs.CallLemmas.{nothing-taken, step-taken}
use Rattle.tr_stream.proofs.stream.Stream.take.Goals as goal

pub returns-then-waiting-eq0-clause-step : goal.returns-then-waiting-eq0-clause-step
returns-then-waiting-eq0-clause-step g c = λ h is _.
    let none = nothing-taken c.args.self.now (search rules) (search rules) in
    step-taken c.args.self.now c.args.self.now h _ is none.0 none.1

pub returns-clause-step : goal.returns-clause-step
returns-clause-step g c = λ h is _.
    step-taken c.args.self.now c.move_oldest.new.self h _ is (sym c.in_ok-move_oldest.ensures.answer) c.in_ok-move_oldest.ensures.ok

pub returns-then-waiting-eq0-clause-value : goal.returns-then-waiting-eq0-clause-value
returns-then-waiting-eq0-clause-value g c = grind (arith, common_steps)
