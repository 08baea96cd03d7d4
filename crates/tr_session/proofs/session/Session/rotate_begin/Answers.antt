use Rattle.std.proofs.Common.{◌∙◌, ap, subst}
use Rattle.std.specs.Prelude.{IsOk}
use Rattle.tr_session.proofs.CallLemmas.{begin-step}
use Rattle.tr_session.proofs.StreamLemmas.{other-book}
use Rattle.tr_session_book.specs.BookSteps.{book_rotate_begin_answer}
use Rattle.tr_session.specs.Steps.{session_after_rotate_begin}
use Rattle.tr_session.proofs.session.Session.rotate_begin.Goals as goal
use Rattle.tr_session_book.specs.Book.{SessionBookState}
use Rattle.tr_session.specs.Session.{SessionOf}
use Rattle.tr_stream.specs.State.{StreamState}

pub invariant_of-self : goal.invariant_of-self
invariant_of-self g c =
    other-book c.self.inside.book c.rotate_begin.new.self c.self.inside.streams.items
    (begin-step c.rotate_begin.result c.args.moment c.self.inside.book c.rotate_begin.new.self c.rotate_begin.ensures.value
    c.rotate_begin.ensures.no_memory) c.self.invariant

pub returns-clause-value : goal.returns-clause-value
returns-clause-value g c = λ not_memory.
    let did = c.rotate_begin.ensures.value not_memory in (
      did.0 ∙ ap (λ (s : SessionOf StreamState). book_rotate_begin_answer s.book) c.self.view_is,
      ap (λ (b : SessionBookState). (let s : SessionOf StreamState = record { book = b; streams = c.self.inside.streams.items } in s)) did.1
          ∙ ap (λ (s : SessionOf StreamState). session_after_rotate_begin c.args.moment s) c.self.view_is,
    )

pub returns-clause-no_memory : goal.returns-clause-no_memory
returns-clause-no_memory g c = λ memory.
    ap (λ (b : SessionBookState).
    (let s : SessionOf StreamState = record { book = b; streams = c.self.inside.streams.items } in s))
    (c.rotate_begin.ensures.no_memory memory)
    ∙ c.self.view_is

pub returns-clause-memory : goal.returns-clause-memory
returns-clause-memory g c = λ memory. subst (λ (s : SessionOf StreamState). IsOk (book_rotate_begin_answer s.book))
    c.self.view_is (c.rotate_begin.ensures.memory memory)
