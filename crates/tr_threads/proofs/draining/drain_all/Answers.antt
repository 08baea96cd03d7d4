use Rattle.std.proofs.Common.{IfOk, subst}
use Rattle.tr_threads.specs.Pools.{EachCame}
use Rattle.tr_threads.specs.Turns.{IsWorked}
use Rattle.tr_threads.proofs.draining.drain_all.Goals as goal

-- as many workers as seats
pub returns-clause-worked : goal.returns-clause-worked
returns-clause-worked g c =
    subst
    (λ n. IfOk c.set_to_work.result
    (λ back. EachCame (IsWorked (g.T.Target.takes c.args.target.now) (g.G.Gate.lets c.args.gate.now) (g.T.Target.stream_count c.args.target.now) n)
    c.args.seats.items back.items))
    c.len.ensures
    c.set_to_work.ensures.worked
