use Rattle.std.proofs.Common.{rules, ◌≡◌, ◌∙◌, ap, length, subst, sym}
use Rattle.tr_seats.proofs.NameLemmas.{desk-planned, opened-planned}
use Rattle.tr_seats.proofs.naming.Named.finish.Goals as goal
use Rattle.tr_seats.specs.Desks.{IsDesk, NotedState}
use Rattle.tr_seats.specs.Operators.{AreNewDeskSeats}
use Rattle.tr_session_book.specs.Book.{SessionBookState}

pub invariant_of-desk : goal.invariant_of-desk
invariant_of-desk g c =
    let old = c.self.inside in
    let all : length old.slots.items ≡ length g.N.Names.plan.books = c.self.view_is ∙ c.requires.all in
    subst (λ (book : SessionBookState). IsDesk g.N.Names.plan book old.consumed.items old.cuts.items old.cleared.items) (sym (ap (λ (b : NotedState). b.book) c.new.ensures ∙ c.requires.book))
    (desk-planned g.N.Names.plan old.slots.items old.producers.items old.consumed.items old.cuts.items old.cleared.items
    c.self.invariant.0
    c.requires.plan.0 all c.requires.plan.1)

pub new-requires-clause-streams : goal.new-requires-clause-streams
new-requires-clause-streams g c =
    let old = c.self.inside in
    let plan = g.N.Names.plan in
    let all : length old.slots.items ≡ length plan.books = c.self.view_is ∙ c.requires.all in
    subst (λ n. AreNewDeskSeats n plan.books old.operations.items) all c.self.invariant.1

pub returns-clause-opened : goal.returns-clause-opened
returns-clause-opened g c =
    let old = c.self.inside in
    let all : length old.slots.items ≡ length g.N.Names.plan.books = c.self.view_is ∙ c.requires.all in
    let made = opened-planned g.N.Names.plan old.slots.items old.producers.items old.consumed.items old.cuts.items old.cleared.items
    c.self.invariant.0
    c.requires.plan.0 all in
    let e = c.from_parts.ensures in
    search (rules, made, e)
