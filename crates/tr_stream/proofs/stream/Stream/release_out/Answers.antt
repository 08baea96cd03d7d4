use Rattle.tr_stream.proofs.ReleaseLemmas.{refused-stays, step-release}
use Rattle.tr_stream.proofs.stream.Stream.release_out.Goals as goal

pub returns-in_ok-release_closed-in-Ok-clause-step : goal.returns-in_ok-release_closed-in-Ok-clause-step
returns-in_ok-release_closed-in-Ok-clause-step g c = λ h is _.
    step-release c.args.self.now c.release_closed.new.self h c.args.k _ is c.in-Ok.ensures.value
    c.in_ok-release_closed-in-Ok.ensures.ok

pub returns-in-Err-clause-step : goal.returns-in-Err-clause-step
returns-in-Err-clause-step g c = λ h is _.
    step-release c.args.self.now c.args.self.now h c.args.k _ is c.in-Err.ensures.value
    (refused-stays c.args.k c.args.self.now c.in-Err.fault c.in-Err.ensures.value)
