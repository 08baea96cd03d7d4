use Rattle.std.proofs.Common.{rules}
use Rattle.tr_stream.proofs.CallLemmas.{clear-local, step-clear}
use Rattle.tr_stream.proofs.stream.Stream.clear_out.Goals as goal

pub returns-clause-step : goal.returns-clause-step
returns-clause-step g c = λ h is _.
    let done = clear-local c.args.self.now c.clear_ring.new.self c.in_ok-clear_ring.field-0.0 (search rules)
    c.in_ok-clear_ring.ensures.answer c.in_ok-clear_ring.ensures.ok
    in
    step-clear c.args.self.now c.clear_ring.new.self h _ is done.0 done.1
