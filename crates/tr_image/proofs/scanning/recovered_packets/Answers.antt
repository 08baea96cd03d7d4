use Rattle.std.proofs.Common.{◌≡◌, Option, sym, subst, false, true}
use Rattle.std.proofs.lemmas.Result.{err_from_is_err_and}
use Rattle.std.specs.Prelude.{MatchOption}
use Rattle.tr_folders.proofs.ReadLemmas.{closed, opened}
use Rattle.tr_folders.specs.Tree.{File}
use Rattle.tr_record.specs.Whole.{AreBytes}
use Rattle.tr_image.specs.Kept.{recovered_from}
use Rattle.tr_image.proofs.scanning.recovered_packets.Goals as goal

pub returns-then-not-branch-clause-found : goal.returns-then-not-branch-clause-found
returns-then-not-branch-clause-found g c t e =
    closed (t.file c.args.path.now) c.in_ok-open.field-0 (g.F.Folders.left c.open.new.self) c.if-not-branch.true (c.in_ok-open.ensures.opens t e)

pub returns-clause-found : goal.returns-clause-found
returns-clause-found g c t e =
    let found =
    opened (t.file c.args.path.now) c.in_ok-open.field-0 (g.F.Folders.left c.open.new.self) c.if-not-branch.false (c.in_ok-open.ensures.opens t e) in
    subst
    (λ (o : Option File). MatchOption o ⊥ (λ file. AreBytes file.bytes → (c.in_ok-gather_all.field-0.items ≡ recovered_from c.args.uuid.now file.bytes) × (file.breaks ≡ false)))
    (sym found.1) (c.in_ok-gather_all.ensures.found found.0 found.2)

pub returns-in_err-gather_all-clause-broken : goal.returns-in_err-gather_all-clause-broken
returns-in_err-gather_all-clause-broken g c =
    let p = err_from_is_err_and c.from_residual-in_err-gather_all.result c.from_residual-in_err-gather_all.ensures.1 in
    rw (p.1, p.2) (λ is t e.
    let found =
    opened (t.file c.args.path.now) c.in_ok-open.field-0 (g.F.Folders.left c.open.new.self) c.if-not-branch.false (c.in_ok-open.ensures.opens t e) in
    subst (λ (o : Option File). MatchOption o ⊥ (λ file. file.breaks ≡ true)) (sym found.1) (c.in_err-gather_all.ensures.broken is found.0 found.2))
