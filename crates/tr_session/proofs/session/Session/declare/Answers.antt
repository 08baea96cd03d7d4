use Rattle.std.proofs.Common.{◌∙◌, ap, sym, subst}
use Rattle.std.specs.Prelude.{IsOk}
use Rattle.tr_session.proofs.CallLemmas.{declare-step}
use Rattle.tr_session.proofs.StreamLemmas.{other-book}
use Rattle.tr_session.proofs.ResultLemmas.{on-ok, on-err, if-err}
use Rattle.tr_session.proofs.SessionLemmas.{added-ok}
use Rattle.tr_session.specs.Steps.{session_declare, with_book}
use Rattle.tr_session.proofs.session.Session.declare.Goals as goal
use Rattle.tr_session_book.specs.Book.{SessionBookState}
use Rattle.tr_session.specs.Session.{SessionOf}
use Rattle.tr_stream.specs.State.{StreamState}

pub invariant_of-self : goal.invariant_of-self
invariant_of-self g c =
    other-book c.self.inside.book c.declare.new.self c.self.inside.streams.items
    (declare-step c.declare.result c.args.events.now c.self.inside.book c.declare.new.self c.declare.ensures.ok
    c.declare.ensures.unchanged) c.self.invariant

pub returns-clause-ok : goal.returns-clause-ok
returns-clause-ok g c =
    on-ok c.declare.result (λ is.
    ap (λ (s : SessionOf StreamState). session_declare c.args.events.now s) (sym c.self.view_is)
    ∙ ap (with_book c.self.inside.streams.items) is) c.declare.ensures.ok

pub returns-clause-refused : goal.returns-clause-refused
returns-clause-refused g c =
    if-err c.declare.result (λ fault is not_memory.
    ap (λ (s : SessionOf StreamState). session_declare c.args.events.now s) (sym c.self.view_is)
    ∙ ap (with_book c.self.inside.streams.items) (is not_memory)) c.declare.ensures.refused

pub returns-clause-memory : goal.returns-clause-memory
returns-clause-memory g c = λ memory.
    subst (λ (s : SessionOf StreamState). IsOk (session_declare c.args.events.now s)) c.self.view_is
    (added-ok c.self.inside.streams.items _ (c.declare.ensures.memory memory))

pub returns-clause-unchanged : goal.returns-clause-unchanged
returns-clause-unchanged g c =
    on-err c.declare.result (λ is.
    ap (λ (b : SessionBookState).
    (let s : SessionOf StreamState = record { book = b; streams = c.self.inside.streams.items } in s)) is
    ∙ c.self.view_is) c.declare.ensures.unchanged
