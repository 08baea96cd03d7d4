use Rattle.std.proofs.Common.{◌∙◌, ap, List}
use Rattle.tr_session.proofs.session.Session.offer_fitting.Goals as goal
use Rattle.tr_session.specs.Session.{SessionOf}
use Rattle.tr_session.specs.Steps.{stream_offer_answer, stream_after_offer}
use Rattle.tr_stream.specs.Rules.{by_state}
use Rattle.tr_stream.specs.State.{StreamState}
use Rattle.tr_session.proofs.CallLemmas.{offer-step}

pub invariant_of-self : goal.invariant_of-self
invariant_of-self g c =
    offer-step c.self.inside.book c.self.inside.streams.items c.offer_at.new.streams.items c.args.i c.args.moment
    c.args.id c.args.payload.now c.offer_at.ensures.after c.self.invariant

pub returns-clause-answer : goal.returns-clause-answer
returns-clause-answer g c =
    c.offer_at.ensures.answer
    ∙ ap (λ (s : SessionOf StreamState). stream_offer_answer by_state c.args.i c.args.moment c.args.id c.args.payload.now s) c.self.view_is

pub returns-clause-after : goal.returns-clause-after
returns-clause-after g c =
    ap (λ (xs : List StreamState). (let s : SessionOf StreamState = record { book = c.self.inside.book; streams = xs } in s)) c.offer_at.ensures.after
    ∙ ap (λ (s : SessionOf StreamState). stream_after_offer by_state c.args.i c.args.moment c.args.id c.args.payload.now s) c.self.view_is
