use Rattle.tr_book.proofs.ChangeLemmas.{changed_at-set, changed_at-past}
use Rattle.tr_session.proofs.ListLemmas.{lent-none, lent-some}
use Rattle.tr_session.proofs.streams.offer_at.Goals as goal
use Rattle.tr_stream.specs.StateSteps.{state_after_offer}

pub returns-in_default-clause-after : goal.returns-in_default-clause-after
returns-in_default-clause-after g c =
    let none = lent-none c.args.streams.now.items c.args.i c.in_default.ensures.item in
    changed_at-past (state_after_offer c.args.moment c.args.id c.args.payload.now) c.args.i c.args.streams.now.items none

pub returns-clause-after : goal.returns-clause-after
returns-clause-after g c =
    let xs = c.args.streams.now.items in
    let at = lent-some xs c.args.i c.in-Some.stream c.in-Some.ensures.item in
    changed_at-set (state_after_offer c.args.moment c.args.id c.args.payload.now) c.args.i xs
    c.in-Some.stream.now c.offer_to.new.stream at c.offer_to.ensures.after

pub returns-clause-answer : goal.returns-clause-answer
returns-clause-answer g c =
    let at = lent-some c.args.streams.now.items c.args.i c.in-Some.stream c.in-Some.ensures.item in rw at c.offer_to.ensures.answer
