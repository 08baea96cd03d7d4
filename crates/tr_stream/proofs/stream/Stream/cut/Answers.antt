use Rattle.std.proofs.Common.{rules}
use Rattle.tr_stream.proofs.CallLemmas.{cut-local, step-cut}
use Rattle.tr_stream.proofs.stream.Stream.cut.Goals as goal

pub returns-clause-step : goal.returns-clause-step
returns-clause-step g c = λ h is _.
    let done = cut-local c.args.self.now c.cut_ring.new.self c.args.moment c.stored_moment-end.result
    c.in_ok-cut_ring.field-0 (search rules) (search rules) c.in_ok-cut_ring.ensures.answer c.in_ok-cut_ring.ensures.ok
    in
    step-cut c.args.self.now c.cut_ring.new.self h c.args.moment _ is done.0 done.1
