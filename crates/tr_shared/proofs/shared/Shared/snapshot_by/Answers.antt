use Rattle.std.proofs.Common.{rules, ◌≡◌, ◌∷◌, ◌++◌, [], ℕ, length, subst, sym, arith}
use Rattle.std.proofs.lemmas.Grind.{common_steps}
use Rattle.tr_shared.proofs.SnapLemmas.{shown-more}
use Rattle.tr_shared.proofs.shared.Shared.snapshot_by.Goals as goal
use Rattle.tr_shared.specs.Shown.{AreShown, IsShown, ShowsAll}

pub loop-i-preserved : goal.loop-i-preserved
loop-i-preserved g c =
    let snap = c.in_ok-look_at.field-0 in
    let was = c.loop-i.snaps.items in
    let items : c.push_reserved.new.self.items ≡ was ++ snap ∷ [] = c.push_reserved.ensures.items in
    let plan = g.N.Names.plan in
    let stored = c.in_ok-stored.stored in
    let here : IsShown plan stored (length was) snap =
    subst (λ (j : ℕ). IsShown plan stored j snap) (sym c.loop-i.invariant.items) c.in_ok-look_at.ensures.shown in
    record {
      many = search rules;
      items = search rules;
      room = search rules;
      shown = subst (AreShown plan stored) (sym items) (shown-more plan stored was snap c.loop-i.invariant.shown here);
    }

pub returns-clause-shown : goal.returns-clause-shown
returns-clause-shown g c = subst (ShowsAll g.N.Names.plan) (sym c.new.ensures) c.loop-i.invariant.shown

pub loop-i-init : goal.loop-i-init
loop-i-init g c = grind (arith, common_steps)

pub look_at-requires-clause-plan : goal.look_at-requires-clause-plan
look_at-requires-clause-plan g c = grind (arith, common_steps)

pub returns-in_err-look_at-clause-refused : goal.returns-in_err-look_at-clause-refused
returns-in_err-look_at-clause-refused g c = grind (arith, common_steps)

pub returns-clause-moment : goal.returns-clause-moment
returns-clause-moment g c = grind (arith, common_steps)

pub returns-clause-all : goal.returns-clause-all
returns-clause-all g c = grind (arith, common_steps)
