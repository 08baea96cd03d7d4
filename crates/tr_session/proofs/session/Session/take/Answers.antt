use Rattle.std.proofs.Common.{◌∙◌, ap, subst, List}
use Rattle.std.specs.Prelude.{IsOk}
use Rattle.tr_session.proofs.session.Session.take.Goals as goal
use Rattle.tr_session.specs.Session.{SessionOf}
use Rattle.tr_session.specs.Steps.{session_take_answer, session_after_take}
use Rattle.tr_stream.specs.Rules.{by_state}
use Rattle.tr_stream.specs.State.{StreamState}
use Rattle.tr_session.proofs.CallLemmas.{take-step}

pub invariant_of-self : goal.invariant_of-self
invariant_of-self g c =
    take-step c.take_at.result c.self.inside.book c.self.inside.streams.items c.take_at.new.streams.items c.args.i
    c.take_at.ensures.value c.take_at.ensures.no_memory c.self.invariant

pub returns-clause-value : goal.returns-clause-value
returns-clause-value g c = λ not_memory.
    let did = c.take_at.ensures.value not_memory in (
      did.0 ∙ ap (λ (s : SessionOf StreamState). session_take_answer by_state c.args.i s) c.self.view_is,
      ap (λ (xs : List StreamState). (let s : SessionOf StreamState = record { book = c.self.inside.book; streams = xs } in s)) did.1
          ∙ ap (λ (s : SessionOf StreamState). session_after_take by_state c.args.i s) c.self.view_is,
    )

pub returns-clause-no_memory : goal.returns-clause-no_memory
returns-clause-no_memory g c = λ memory.
    ap (λ (xs : List StreamState).
    (let s : SessionOf StreamState = record { book = c.self.inside.book; streams = xs } in s))
    (c.take_at.ensures.no_memory memory)
    ∙ c.self.view_is

pub returns-clause-memory : goal.returns-clause-memory
returns-clause-memory g c = λ memory.
    subst (λ (s : SessionOf StreamState). IsOk (session_take_answer by_state c.args.i s)) c.self.view_is (c.take_at.ensures.memory memory)
