use Rattle.std.proofs.Common.{Ok, Err, Some, inl, inr, subst}
use Rattle.std.proofs.lemmas.Result.{err_from_is_err_and}
use Rattle.tr_shared.proofs.shared.Shared.tick_by.Goals as goal
use Rattle.tr_shared.specs.Operators.{IsDueOf, IsEndOf}

pub returns-in_err-archive-clause-steps : goal.returns-in_err-archive-clause-steps
returns-in_err-archive-clause-steps g c =
    let before = c.args.operator.now in
    let begun = c.begin_due.new.operator in
    let due : IsDueOf c.args.now before (Ok (Some c.in-Some.cause)) begun =
    subst (λ o. IsDueOf c.args.now before (Ok o) begun) c.in-Some.is c.in_ok-cause.ensures.steps in
    let ended = subst (λ l. IsEndOf l (Err c.in_err-archive.field-0.0) c.rotate_on.new.operator) due.1 c.in_err-archive.ensures.steps in
    let p = err_from_is_err_and c.from_residual-in_err-archive.result c.from_residual-in_err-archive.ensures.1 in
    rw (p.1, p.2) (inr (inl (due.0, ended)))
