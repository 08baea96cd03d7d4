use Rattle.std.proofs.Common.{refl, arith}
use Rattle.std.proofs.lemmas.Grind.{common_steps}
use Rattle.tr_book.proofs.ChangeLemmas.{changed_at-set, changed_at-past}
use Rattle.tr_session.proofs.ListLemmas.{lent-none, lent-some}
use Rattle.tr_session.proofs.streams.take_at.Goals as goal
use Rattle.tr_stream.specs.StateSteps.{state_after_take}

pub returns-in_default-clause-value : goal.returns-in_default-clause-value
returns-in_default-clause-value g c = λ _.
    let none = lent-none c.args.streams.now.items c.args.i c.in_default.ensures.item in
    (rw none refl, changed_at-past state_after_take c.args.i c.args.streams.now.items none)

pub returns-clause-value : goal.returns-clause-value
returns-clause-value g c = λ not_memory.
    let xs = c.args.streams.now.items in
    let at = lent-some xs c.args.i c.in-Some.stream c.in-Some.ensures.item in
    let did = c.take_from.ensures.value not_memory in
    (rw at did.0, changed_at-set state_after_take c.args.i xs c.in-Some.stream.now c.take_from.new.stream at did.1)

pub returns-clause-no_memory : goal.returns-clause-no_memory
returns-clause-no_memory g c = grind (arith, common_steps)
