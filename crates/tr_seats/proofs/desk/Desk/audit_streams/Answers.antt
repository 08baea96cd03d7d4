use Rattle.std.proofs.Common.{subst}
use Rattle.std.specs.Prelude.{IsTrue, ◌↔◌}
use Rattle.tr_seats.proofs.desk.Desk.audit_streams.Goals as goal
use Rattle.tr_seats.specs.Desks.{DeskState}
use Rattle.tr_seats.specs.Operators.{AreAllOperators}

pub returns-clause-lent : goal.returns-clause-lent
returns-clause-lent g c =
    subst (λ (d : DeskState). IsTrue c.audit_streams.result ↔ AreAllOperators d.operators c.args.operators.now) c.self.view_is
    c.audit_streams.ensures.lent
