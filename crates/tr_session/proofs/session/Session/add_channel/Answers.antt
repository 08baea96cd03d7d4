use Rattle.std.proofs.Common.{◌∙◌, ap, sym, subst}
use Rattle.std.specs.Prelude.{IsOk}
use Rattle.tr_session.proofs.CallLemmas.{channel-step}
use Rattle.tr_session.proofs.StreamLemmas.{other-book}
use Rattle.tr_session.proofs.ResultLemmas.{on-ok, on-err, if-err}
use Rattle.tr_session.proofs.SessionLemmas.{added-ok}
use Rattle.tr_session.specs.Steps.{session_add_channel, with_book}
use Rattle.tr_session.proofs.session.Session.add_channel.Goals as goal
use Rattle.tr_session_book.specs.Book.{SessionBookState}
use Rattle.tr_session.specs.Session.{SessionOf}
use Rattle.tr_stream.specs.State.{StreamState}

pub invariant_of-self : goal.invariant_of-self
invariant_of-self g c =
    other-book c.self.inside.book c.add_channel.new.self c.self.inside.streams.items
    (channel-step c.add_channel.result c.args.name.now c.args.size c.args.count c.args.mode c.self.inside.book
    c.add_channel.new.self c.add_channel.ensures.ok c.add_channel.ensures.unchanged) c.self.invariant

pub returns-clause-ok : goal.returns-clause-ok
returns-clause-ok g c =
    on-ok c.add_channel.result (λ is.
    ap (λ (s : SessionOf StreamState). session_add_channel c.args.name.now c.args.size c.args.count c.args.mode s)
    (sym c.self.view_is) ∙ ap (with_book c.self.inside.streams.items) is) c.add_channel.ensures.ok

pub returns-clause-refused : goal.returns-clause-refused
returns-clause-refused g c =
    if-err c.add_channel.result (λ fault is not_memory.
    ap (λ (s : SessionOf StreamState). session_add_channel c.args.name.now c.args.size c.args.count c.args.mode s)
    (sym c.self.view_is) ∙ ap (with_book c.self.inside.streams.items) (is not_memory)) c.add_channel.ensures.refused

pub returns-clause-memory : goal.returns-clause-memory
returns-clause-memory g c = λ memory.
    subst (λ (s : SessionOf StreamState). IsOk (session_add_channel c.args.name.now c.args.size c.args.count c.args.mode s)) c.self.view_is
    (added-ok c.self.inside.streams.items _ (c.add_channel.ensures.memory memory))

pub returns-clause-unchanged : goal.returns-clause-unchanged
returns-clause-unchanged g c =
    on-err c.add_channel.result (λ is.
    ap (λ (b : SessionBookState).
    (let s : SessionOf StreamState = record { book = b; streams = c.self.inside.streams.items } in s)) is
    ∙ c.self.view_is) c.add_channel.ensures.unchanged
