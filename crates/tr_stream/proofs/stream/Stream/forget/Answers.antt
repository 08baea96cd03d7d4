use Rattle.std.proofs.Common.{rules, ◌≡◌, Err, Ok, Some, None, ap}
use Rattle.tr_stream.proofs.ForgetLemmas.{step-forget}
use Rattle.tr_stream.proofs.stream.Stream.forget.Goals as goal
use Rattle.tr_stream.specs.StateSteps.{forget_parts_unless, state_forget_refusal}
use Rattle.tr_stream.specs.Steps.{done_unless}
use Rattle.tr_stream.specs.declared.answers.ForgetFault.{ForgetFault}
use Rattle.std.specs.Prelude.{Option}

pub returns-in-Some-clause-step : goal.returns-in-Some-clause-step
returns-in-Some-clause-step g c = λ h is _.
    let s = c.args.self.now in
    let why : Some c.in-Some.fault ≡ state_forget_refusal c.args.k s = search rules in
    step-forget s s h c.args.k (Err c.in-Some.fault) is (ap done_unless why)
    (ap (λ (r : Option ForgetFault). forget_parts_unless r c.args.k s) why)

pub returns-in_ok-forget_released-in-None-clause-step : goal.returns-in_ok-forget_released-in-None-clause-step
returns-in_ok-forget_released-in-None-clause-step g c = λ h is _.
    let s = c.args.self.now in
    let none : None ≡ state_forget_refusal c.args.k s = search rules in
    step-forget s c.forget_released.new.self h c.args.k (Ok tt) is (ap done_unless none) c.in_ok-forget_released-in-None.ensures.ok
