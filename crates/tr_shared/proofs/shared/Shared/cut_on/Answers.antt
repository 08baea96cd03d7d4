use Rattle.std.proofs.Common.{[]}
use Rattle.std.proofs.lemmas.Result.{err_from_is_err_and}
use Rattle.tr_shared.proofs.StepLemmas.{cuts-more, cuts-stopped, with-none}
use Rattle.tr_shared.proofs.shared.Shared.cut_on.Goals as goal

pub loop-init : goal.loop-init
loop-init g c = ([], tt, with-none c.args.operator.now)

pub loop-preserved : goal.loop-preserved
loop-preserved g c =
    let v = c.loop.invariant in
    cuts-more c.args.operator.now c.loop.operator c.rotate_next_by.new.operator v.0 c.in_ok-rotate_next_by.field-0 v.1 v.2
    c.in_ok-rotate_next_by.ensures.steps

pub returns-then-eq-clause-steps : goal.returns-then-eq-clause-steps
returns-then-eq-clause-steps g c =
    let v = c.loop.invariant in
    cuts-more c.args.operator.now c.loop.operator c.rotate_next_by.new.operator v.0 c.in_ok-rotate_next_by.field-0 v.1 v.2
    c.in_ok-rotate_next_by.ensures.steps

pub returns-in_err-rotate_next_by-clause-steps : goal.returns-in_err-rotate_next_by-clause-steps
returns-in_err-rotate_next_by-clause-steps g c =
    let v = c.loop.invariant in
    let fault = c.in_err-rotate_next_by.field-0.0 in
    let p = err_from_is_err_and c.from_residual.result c.from_residual.ensures.1 in
    rw (p.1, p.2) (cuts-stopped c.args.operator.now c.loop.operator c.rotate_next_by.new.operator v.0 fault v.1 v.2
    c.in_err-rotate_next_by.ensures.steps)

pub returns-after-loop-clause-steps : goal.returns-after-loop-clause-steps
returns-after-loop-clause-steps g c = c.loop.invariant
