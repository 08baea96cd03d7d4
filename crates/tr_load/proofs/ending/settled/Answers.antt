use Rattle.std.proofs.Common.{rules, ℕ, length, subst, sym}
use Rattle.tr_load.proofs.LoadLemmas.{judged_ok}
use Rattle.tr_load.proofs.ending.settled.Goals as goal
use Rattle.tr_load.specs.Loads.{AllHave, IsEnded, IsJudged, IsUncleared}
use Rattle.tr_seats.specs.Settling.{IsOneEach}

pub returns-clause-judged : goal.returns-clause-judged
returns-clause-judged g c =
    let judged : IsJudged c.args.logs.now c.in-Ok.settled.streams c.judged-outcome.result = search rules in
    let ended : IsEnded c.args.records c.in-Ok.settled.book = search rules in
    let whole : AllHave c.args.records c.args.logs.now = search rules in
    let uncleared : IsUncleared c.judged-outcome.result = search rules in
    (judged, c.in-Ok.ensures.planned, ended, whole, uncleared)

pub returns-clause-agree : goal.returns-clause-agree
returns-clause-agree g c = λ are.
    let streams = c.in-Ok.settled.streams in
    let producers = c.args.producers.items in
    let once : IsOneEach (length streams) producers =
    subst (λ (n : ℕ). IsOneEach n producers) (sym c.in-Ok.ensures.planned.many) c.in-Ok.ensures.all in
    let judged : IsJudged c.args.logs.now streams c.judged-outcome.result = search rules in
    judged_ok producers c.args.logs.now streams c.judged-outcome.result once c.in-Ok.ensures.accounts are judged
