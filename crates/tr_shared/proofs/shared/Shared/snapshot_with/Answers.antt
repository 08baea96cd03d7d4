use Rattle.std.proofs.Common.{rules, ◌≡◌, ◌∙◌, ◌∷◌, ◌++◌, [], ℕ, length, subst, sym, arith}
use Rattle.std.proofs.lemmas.Grind.{common_steps}
use Rattle.tr_seats.specs.Slots.{ProducerState}
use Rattle.tr_shared.proofs.SnapLemmas.{own-more, shown-more}
use Rattle.tr_shared.proofs.shared.Shared.snapshot_with.Goals as goal
use Rattle.tr_shared.specs.Shown.{AreShown, IsShown, OwnIsShown, ShowsAll, ShowsOwn}

pub loop-i-preserved : goal.loop-i-preserved
loop-i-preserved g c =
    let snap = c.in_ok-look_beside.field-0 in
    let was = c.loop-i.snaps.items in
    let items : c.push_reserved.new.self.items ≡ was ++ snap ∷ [] = c.push_reserved.ensures.items in
    let plan = g.N.Names.plan in
    let stored = c.in_ok-stored.stored in
    let here : IsShown plan stored (length was) snap =
    subst (λ (j : ℕ). IsShown plan stored j snap) (sym c.loop-i.invariant.items) c.in_ok-look_beside.ensures.shown in
    let own : OwnIsShown plan stored c.loop-i.producer (was ++ snap ∷ []) =
    own-more plan stored c.loop-i.producer was snap c.loop-i.invariant.own
    (λ (e : c.loop-i.producer.number ≡ length was). c.in_ok-look_beside.ensures.own (e ∙ c.loop-i.invariant.items)) in
    record {
      same = search rules;
      many = search rules;
      items = search rules;
      room = search rules;
      shown = subst (AreShown plan stored) (sym items) (shown-more plan stored was snap c.loop-i.invariant.shown here);
      own = subst (λ (p : ProducerState). OwnIsShown plan stored p c.push_reserved.new.self.items) (sym c.look_beside.ensures.same)
          (subst (OwnIsShown plan stored c.loop-i.producer) (sym items) own);
    }

pub returns-clause-shown : goal.returns-clause-shown
returns-clause-shown g c = subst (ShowsAll g.N.Names.plan) (sym c.new.ensures) c.loop-i.invariant.shown

pub returns-clause-own : goal.returns-clause-own
returns-clause-own g c =
    let plan = g.N.Names.plan in
    subst (λ (p : ProducerState). ShowsOwn plan p c.new.result) c.loop-i.invariant.same
    (subst (ShowsOwn plan c.loop-i.producer) (sym c.new.ensures) c.loop-i.invariant.own)

pub loop-i-init : goal.loop-i-init
loop-i-init g c = grind (arith, common_steps)

pub look_beside-requires-clause-plan : goal.look_beside-requires-clause-plan
look_beside-requires-clause-plan g c = grind (arith, common_steps)

pub returns-clause-moment : goal.returns-clause-moment
returns-clause-moment g c = grind (arith, common_steps)

pub returns-clause-all : goal.returns-clause-all
returns-clause-all g c = grind (arith, common_steps)
