use Rattle.std.proofs.Common.{◌≡◌, ◌∙◌, List, ap, length, subst, sym, true≢false}
use Rattle.std.specs.Prelude.{IsTrue, ◌↔◌}
use Rattle.tr_seats.proofs.Joins.{written-back}
use Rattle.tr_seats.proofs.opened.Opened.audit_operators.Goals as goal
use Rattle.tr_seats.specs.Operators.{AreAllOperators, AreOperatorsOf}
use Rattle.tr_seats.specs.Settling.{AreInPlace, HaveOperated, OpenedState, opened_state, streams_of}
use Rattle.tr_seats.specs.Slots.{SlotState}

pub audit_streams-requires : goal.audit_streams-requires
audit_streams-requires g c =
    let items : c.as_mut_slice.result.now ≡ c.self.inside.slots.items = c.as_mut_slice.ensures.value in
    let place : AreInPlace c.deref.result.now = c.are_in_place.ensures.0 c.if-are_in_place.true in
    (ap length items ∙ c.self.invariant.0, subst AreInPlace (c.deref.ensures.value ∙ sym items) place)

pub invariant_of-self : goal.invariant_of-self
invariant_of-self g c =
    let slots = c.self.inside.slots in
    let back = written-back slots.items c.audit_streams.new.slots slots.len (c.audit_streams.ensures.same.2 ∙ c.as_mut_slice.ensures.value)
    slots.ok.0 in
    (ap length back ∙ c.self.invariant.0, c.self.invariant.1, c.self.invariant.2)

pub returns-then-are_in_place-clause-same : goal.returns-then-are_in_place-clause-same
returns-then-are_in_place-clause-same g c =
    let slots = c.self.inside.slots in
    let back = written-back slots.items c.audit_streams.new.slots slots.len (c.audit_streams.ensures.same.2 ∙ c.as_mut_slice.ensures.value)
    slots.ok.0 in
    ((λ j. opened_state (c.audit_streams.ensures.same.0 j) (back j)) ∙ c.self.view_is, c.audit_streams.ensures.same.1)

pub returns-then-are_in_place-clause-lent : goal.returns-then-are_in_place-clause-lent
returns-then-are_in_place-clause-lent g c =
    subst (λ (o : OpenedState). IsTrue c.audit_streams.result ↔ AreAllOperators o.desk.operators c.args.operators.now) c.self.view_is
    c.audit_streams.ensures.lent

pub returns-then-are_in_place-clause-own : goal.returns-then-are_in_place-clause-own
returns-then-are_in_place-clause-own g c =
    let all = c.audit_streams in
    subst (λ (o : OpenedState). AreOperatorsOf g.N.Names.plan.session.book c.args.operators.now all.result o.desk.book) c.self.view_is
    (all.ensures.own.operations, all.ensures.own.done)

pub returns-then-are_in_place-clause-streams : goal.returns-then-are_in_place-clause-streams
returns-then-are_in_place-clause-streams g c = λ place.
    let all = c.audit_streams in
    let planned = g.N.Names.plan.session.book in
    let operators = c.args.operators.now in
    let own : HaveOperated planned operators all.result c.self.inside.desk.book (streams_of c.self.inside.slots.items) =
    subst (λ (slots : List SlotState). HaveOperated planned operators all.result c.self.inside.desk.book (streams_of slots))
    c.as_mut_slice.ensures.value all.ensures.own in
    subst (λ (o : OpenedState). HaveOperated planned operators all.result o.desk.book (streams_of o.slots)) c.self.view_is own

pub returns-clause-same : goal.returns-clause-same
returns-clause-same g c =
    ((λ j. opened_state (c.audit_operators.ensures.same.0 j) c.self.inside.slots.items) ∙ c.self.view_is, c.audit_operators.ensures.same.1)

pub returns-clause-lent : goal.returns-clause-lent
returns-clause-lent g c =
    subst (λ (o : OpenedState). IsTrue c.audit_operators.result ↔ AreAllOperators o.desk.operators c.args.operators.now) c.self.view_is
    c.audit_operators.ensures.lent

pub returns-clause-own : goal.returns-clause-own
returns-clause-own g c =
    let all = c.audit_operators in
    subst (λ (o : OpenedState). AreOperatorsOf g.N.Names.plan.session.book c.args.operators.now all.result o.desk.book) c.self.view_is
    all.ensures.own

pub returns-clause-streams : goal.returns-clause-streams
returns-clause-streams g c = λ place.
    let items = c.deref.ensures.value ∙ ap (λ (o : OpenedState). o.slots) c.self.view_is in
    absurd (true≢false (sym (c.are_in_place.ensures.1 (subst AreInPlace (sym items) place)) ∙ c.if-are_in_place.false))
