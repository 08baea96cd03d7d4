use Rattle.std.proofs.Common.{◌≡◌, None, Option, option_map, subst, sym, true, false}
use Rattle.std.proofs.lemmas.Result.{err_from_is_err_and}
use Rattle.std.specs.Prelude.{MatchOption}
use Rattle.tr_folders.proofs.ReadLemmas.{closed, opened}
use Rattle.tr_folders.specs.Tree.{File}
use Rattle.tr_image.specs.Traces.{trace_in}
use Rattle.tr_image.proofs.traces.named_trace.Goals as goal

pub returns-then-not-branch-clause-broken : goal.returns-then-not-branch-clause-broken
returns-then-not-branch-clause-broken g c is t e =
    let none = closed (t.file c.args.path.now) c.in_ok-open.field-0 (g.F.Folders.left c.open.new.self) c.if-not-branch.true (c.in_ok-open.ensures.opens t e) in
    subst (λ (o : Option File). MatchOption o Unit (λ file. file.breaks ≡ true)) (sym none) tt

pub returns-clause-found : goal.returns-clause-found
returns-clause-found g c t e =
    let found =
    opened (t.file c.args.path.now) c.in_ok-open.field-0 (g.F.Folders.left c.open.new.self) c.if-not-branch.false (c.in_ok-open.ensures.opens t e) in
    subst
    (λ (o : Option File). MatchOption o ⊥ (λ file.
    (c.in_ok-trace_left.field-0 ≡ trace_in (option_map (λ u. u.now) c.args.wanted) file.bytes) × (c.in_ok-trace_left.field-0 ≡ None → file.breaks ≡ false)))
    (sym found.1) (c.in_ok-trace_left.ensures.found found.0 found.2)

pub returns-in_err-trace_left-clause-broken : goal.returns-in_err-trace_left-clause-broken
returns-in_err-trace_left-clause-broken g c =
    let p = err_from_is_err_and c.from_residual-in_err-trace_left.result c.from_residual-in_err-trace_left.ensures.1 in
    rw (p.1, p.2) (λ is t e.
    let found =
    opened (t.file c.args.path.now) c.in_ok-open.field-0 (g.F.Folders.left c.open.new.self) c.if-not-branch.false (c.in_ok-open.ensures.opens t e) in
    subst (λ (o : Option File). MatchOption o Unit (λ file. file.breaks ≡ true)) (sym found.1) (c.in_err-trace_left.ensures.broken is found.0 found.2))
