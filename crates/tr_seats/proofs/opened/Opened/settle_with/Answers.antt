use Rattle.std.proofs.Common.{◌≡◌, ℕ, List, ap, length, subst, sym, ◌∙◌, arith}
use Rattle.std.proofs.lemmas.Grind.{common_steps}
use Rattle.std.specs.Prelude.{IsTrue, ◌↔◌}
use Rattle.tr_seats.proofs.opened.Opened.settle_with.Goals as goal
use Rattle.tr_seats.specs.Operators.{AreAllOperators}
use Rattle.tr_seats.specs.Settling.{AddUp, AreAccountsOf, ArePacketsOf, AreTheirs, HaveCleared, HaveConsumed, HaveOneHistory, IsWhy, OpenedState, WereConsumed, opened_state, streams_of, totals_of_seats}
use Rattle.tr_seats.specs.Slots.{ProducerState}
use Rattle.tr_seats.specs.Sums.{totals_of}
use Rattle.tr_session.specs.Session.{SessionOf, session_of}
use Rattle.tr_stream.specs.State.{StreamState}

pub returns-in-Some-clause-why : goal.returns-in-Some-clause-why
returns-in-Some-clause-why g c =
    let many : c.len.result ≡ length c.args.drainers.items = c.len.ensures ∙ c.args.drainers.ok.0 in
    let opened : opened_state c.self.inside.desk c.deref.result.now ≡ c.args.self =
    (λ j. opened_state c.self.inside.desk (c.deref.ensures.value j)) ∙ c.self.view_is in
    subst (λ (x : List ProducerState × ℕ × OpenedState). IsWhy c.in-Some.error x.0 x.1 x.2)
    (λ j. (c.deref-2.ensures.value j, many j, opened j)) c.in-Some.ensures

pub returns-in-None-clause-session : goal.returns-in-None-clause-session
returns-in-None-clause-session g c =
    c.settle_all.ensures.session ∙ ap (λ (o : OpenedState). session_of o.desk.book (streams_of o.slots)) c.self.view_is

pub returns-in-None-clause-totals : goal.returns-in-None-clause-totals
returns-in-None-clause-totals g c = c.settle_all.ensures.totals ∙ ap (λ (o : OpenedState). totals_of (streams_of o.slots)) c.self.view_is

pub returns-in-None-clause-seats : goal.returns-in-None-clause-seats
returns-in-None-clause-seats g c =
    c.settle_all.ensures.seats
    ∙ ap (λ (o : OpenedState). totals_of_seats c.args.producers.items c.args.drainers.items o.desk) c.self.view_is

pub returns-in-None-clause-places : goal.returns-in-None-clause-places
returns-in-None-clause-places g c =
    subst (λ (o : OpenedState). AddUp c.settle_all.result.1 (streams_of o.slots)) c.self.view_is c.settle_all.ensures.places

pub returns-in-None-clause-consumed : goal.returns-in-None-clause-consumed
returns-in-None-clause-consumed g c =
    subst (λ (o : OpenedState). WereConsumed c.settle_all.result.1 (streams_of o.slots)) c.self.view_is c.settle_all.ensures.consumed

pub settle_all-requires-clause-may : goal.settle_all-requires-clause-may
settle_all-requires-clause-may g c = grind (arith, common_steps)

pub returns-in-None-clause-may : goal.returns-in-None-clause-may
returns-in-None-clause-may g c = grind (arith, common_steps)

pub returns-in-None-clause-own : goal.returns-in-None-clause-own
returns-in-None-clause-own g c =
    subst (λ (s : SessionOf StreamState). AreTheirs c.args.producers.items s.streams) (sym c.settle_all.ensures.session) c.settle_all.ensures.own

pub returns-in-None-clause-taken : goal.returns-in-None-clause-taken
returns-in-None-clause-taken g c =
    subst (λ (x : List ℕ × SessionOf StreamState). HaveConsumed x.0 c.args.drainers.items x.1.streams)
    (λ j. ((c.self.view_is j).desk.consumed, sym c.settle_all.ensures.session j)) c.settle_all.ensures.taken

pub returns-in-None-clause-cleared : goal.returns-in-None-clause-cleared
returns-in-None-clause-cleared g c =
    subst (λ (x : List ℕ × SessionOf StreamState). HaveCleared x.0 x.1.streams)
    (λ j. ((c.self.view_is j).desk.cleared, sym c.settle_all.ensures.session j)) c.settle_all.ensures.cleared

pub returns-in-None-clause-accounts : goal.returns-in-None-clause-accounts
returns-in-None-clause-accounts g c =
    subst (λ (s : SessionOf StreamState). AreAccountsOf c.args.producers.items s.streams) (sym c.settle_all.ensures.session)
    c.settle_all.ensures.accounts

pub returns-in-None-clause-packets : goal.returns-in-None-clause-packets
returns-in-None-clause-packets g c =
    subst (λ (s : SessionOf StreamState). ArePacketsOf c.args.drainers.items s.streams) (sym c.settle_all.ensures.session)
    c.settle_all.ensures.packets

pub returns-in-None-clause-histories : goal.returns-in-None-clause-histories
returns-in-None-clause-histories g c =
    let planned = g.N.Names.plan.session.book in
    let all = c.settle_all.result.2 in
    subst (λ (s : SessionOf StreamState). HaveOneHistory planned c.args.operators.now all c.args.producers.items c.args.drainers.items s.book s.streams)
    (sym c.settle_all.ensures.session) c.settle_all.ensures.histories

pub returns-in-None-clause-lent : goal.returns-in-None-clause-lent
returns-in-None-clause-lent g c =
    subst (λ (o : OpenedState). IsTrue c.settle_all.result.2 ↔ AreAllOperators o.desk.operators c.args.operators.now) c.self.view_is
    c.settle_all.ensures.lent
