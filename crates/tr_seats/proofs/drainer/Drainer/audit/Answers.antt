use Rattle.std.proofs.Common.{◌≡◌, ◌∙◌, ◌<◌, ap, arith, length, set, subst, sym}
use Rattle.std.proofs.lemmas.List.{get_or-map}
use Rattle.tr_accounts.specs.StreamSteps.{taken_in}
use Rattle.tr_accounts.specs.declared.step.StreamStep.{StreamStep}
use Rattle.tr_journal.specs.Journals.{SeatState}
use Rattle.tr_seats.proofs.Joins.{put-back}
use Rattle.tr_seats.proofs.drainer.Drainer.audit.Goals as goal
use Rattle.tr_seats.specs.Accounts.{AreTakeSeats, IsTakeSeat, IsTakenFrom, taken_by}
use Rattle.tr_seats.specs.Books.{books_at}
use Rattle.tr_seats.specs.Drainers.{DrainerState, drainer_state, taken_at}
use Rattle.tr_seats.specs.Slots.{amounts_of}

pub index_mut-requires : goal.index_mut-requires
index_mut-requires g c = omega (arith, c.requires.there, c.self.invariant.1.many)

pub audit_takes-requires : goal.audit_takes-requires
audit_takes-requires g c =
    let books = g.N.Names.plan.books in
    let i = c.args.i in
    let seat = c.index_mut.result.now in
    subst (λ n. IsTakeSeat (books_at books n).journal seat) c.requires.here
    (subst (IsTakeSeat (books_at books i).journal) (sym c.index_mut.ensures.value) (c.self.invariant.1.each i seat c.requires.there))

pub invariant_of-self : goal.invariant_of-self
invariant_of-self g c =
    let books = g.N.Names.plan.books in
    let takes = c.self.inside.takes.items in
    let same : set takes c.args.i c.audit_takes.new.seat ≡ takes =
    put-back takes c.args.i c.audit_takes.new.seat c.index_mut.result.now (c.audit_takes.ensures.same.1 ∙ c.index_mut.ensures.value) in
    (c.self.invariant.0, subst (AreTakeSeats (length books) books) (sym same) c.self.invariant.1)

pub returns-clause-same : goal.returns-clause-same
returns-clause-same g c =
    let takes = c.self.inside.takes.items in
    let same : set takes c.args.i c.audit_takes.new.seat ≡ takes =
    put-back takes c.args.i c.audit_takes.new.seat c.index_mut.result.now (c.audit_takes.ensures.same.1 ∙ c.index_mut.ensures.value) in
    (c.audit_takes.ensures.same.0, (λ j. drainer_state (amounts_of c.self.inside.seats.items) (taken_by (same j))) ∙ c.self.view_is)

pub returns-clause-taken : goal.returns-clause-taken
returns-clause-taken g c =
    let takes = c.self.inside.takes.items in
    let i = c.args.i in
    let seat = c.index_mut.result.now in
    let there : i < length takes = omega (arith, c.requires.there, c.self.invariant.1.many) in
    let own : taken_in seat.own ≡ taken_at (drainer_state (amounts_of c.self.inside.seats.items) (taken_by takes)) i =
    ap (λ (s : SeatState StreamStep). taken_in s.own) c.index_mut.ensures.value
    ∙ sym (get_or-map (λ (s : SeatState StreamStep). taken_in s.own) takes i seat _ there) in
    subst (λ t. IsTakenFrom t c.args.slot.now.stream) (own ∙ ap (λ (d : DrainerState). taken_at d i) c.self.view_is)
    c.audit_takes.ensures.taken
