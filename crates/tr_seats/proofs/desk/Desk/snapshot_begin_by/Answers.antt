use Rattle.std.proofs.Common.{subst, sym}
use Rattle.tr_seats.proofs.DeskLemmas.{desk-shown}
use Rattle.tr_seats.proofs.desk.Desk.snapshot_begin_by.Goals as goal
use Rattle.tr_seats.specs.Desks.{IsDesk, NotedState}

pub invariant_of-self : goal.invariant_of-self
invariant_of-self g c =
    let plan = g.N.Names.plan in
    let old = c.self.inside in
    subst (λ (b : NotedState). IsDesk plan b.book old.consumed.items old.cuts.items old.cleared.items) (sym c.snapshot_begin.ensures.after)
    (desk-shown plan old.book.book old.consumed.items old.cuts.items old.cleared.items c.args.moment c.self.invariant)
