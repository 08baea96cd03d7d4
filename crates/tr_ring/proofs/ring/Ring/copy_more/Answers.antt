use Rattle.std.proofs.Common.{sym}
use Rattle.tr_ring.proofs.PageLemmas.{set-found}
use Rattle.tr_ring.proofs.ring.Ring.copy_more.Goals as goal

pub invariant_of-self : goal.invariant_of-self
invariant_of-self g c =
    let back = set-found c.self.inside.waiting.items c.args.i c.in-Some.sealed.now c.copy_more.new.self
    (sym c.in-Some.ensures.value) c.copy_more.ensures in
    rw back c.self.invariant

pub returns-in-Some : goal.returns-in-Some
returns-in-Some g c =
    let back = set-found c.self.inside.waiting.items c.args.i c.in-Some.sealed.now c.copy_more.new.self
    (sym c.in-Some.ensures.value) c.copy_more.ensures in
    rw back c.self.view_is
