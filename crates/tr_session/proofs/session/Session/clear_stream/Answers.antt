use Rattle.std.proofs.Common.{◌≡◌, ◌≤◌, ◌∙◌, ◌<◌, Err, Ok, List, ap, arith, length, subst, sym}
use Rattle.tr_session.proofs.AskedLemmas.{allowed-asked, allowed-says, asked-past, asked-there, refused-asked, step-asked}
use Rattle.tr_session.proofs.StreamLemmas.{clear-keeps}
use Rattle.tr_session.proofs.session.Session.clear_stream.Goals as goal
use Rattle.tr_session.specs.Session.{SessionOf}
use Rattle.tr_session.specs.Steps.{ClearsPackets, clear_as_session, session_after_clear, session_clear_answer}
use Rattle.tr_session_book.specs.Book.{SessionBookState}
use Rattle.tr_session_book.specs.BookSteps.{book_clear_answer, clear_allowed_at}
use Rattle.tr_session_book.specs.declared.faults.SessionFault.TheVariants.{NoStream}
use Rattle.tr_stream.specs.Rules.{by_state}
use Rattle.tr_stream.specs.State.{StreamState}
use Rattle.tr_stream.specs.StateSteps.{state_after_clear, state_clear_answer}

pub returns-then-i-streams-clause-value : goal.returns-then-i-streams-clause-value
returns-then-i-streams-clause-value g c = λ _.
    let s = c.args.self.now in
    let past : length s.book.threads ≤ c.args.i = omega (arith, c.if-i-streams.true, c.streams.ensures.threads) in
    refused-asked (λ t. clear_as_session (state_clear_answer t)) state_after_clear (clear_allowed_at c.args.i s.book) c.args.i s
    NoStream (asked-past c.args.i (book_clear_answer s.book) s.book past)

pub invariant_of-self : goal.invariant_of-self
invariant_of-self g c =
    step-asked (λ t. clear_as_session (state_clear_answer t)) state_after_clear c.clear_at.result c.self.inside.book
    c.self.inside.streams.items c.clear_at.new.streams.items c.args.i clear-keeps c.clear_at.ensures.value
    c.clear_at.ensures.no_memory c.self.invariant

pub returns-in-Ok-clause-value : goal.returns-in-Ok-clause-value
returns-in-Ok-clause-value g c = λ not_memory.
    let b = c.self.inside.book in
    let book : c.args.self.now.book ≡ b = ap (λ (s : SessionOf StreamState). s.book) (sym c.self.view_is) in
    let within : c.args.i < length b.threads =
    subst (λ (d : SessionBookState). c.args.i < length d.threads) book (omega (arith, c.if-i-streams.false, c.streams.ensures.threads)) in
    let at : clear_allowed_at c.args.i b ≡ Ok tt = asked-there c.args.i (book_clear_answer b) b within ∙ sym c.in-Ok.ensures.value in
    let did = c.clear_at.ensures.value not_memory in
    let told = allowed-asked (λ t. clear_as_session (state_clear_answer t)) state_after_clear (clear_allowed_at c.args.i b) c.args.i b
    c.self.inside.streams.items c.clear_at.new.streams.items c.clear_at.result at did.0 did.1 in (
      told.0 ∙ ap (session_clear_answer by_state c.args.i) c.self.view_is,
      told.1 ∙ ap (session_after_clear by_state c.args.i) c.self.view_is,
    )

pub returns-in-Ok-clause-no_memory : goal.returns-in-Ok-clause-no_memory
returns-in-Ok-clause-no_memory g c = λ memory.
    ap (λ (xs : List StreamState).
    (let s : SessionOf StreamState = record { book = c.self.inside.book; streams = xs } in s))
    (c.clear_at.ensures.no_memory memory)
    ∙ c.self.view_is

pub returns-in-Ok-clause-memory : goal.returns-in-Ok-clause-memory
returns-in-Ok-clause-memory g c = λ memory.
    let b = c.self.inside.book in
    let book : c.args.self.now.book ≡ b = ap (λ (s : SessionOf StreamState). s.book) (sym c.self.view_is) in
    let within : c.args.i < length b.threads =
    subst (λ (d : SessionBookState). c.args.i < length d.threads) book (omega (arith, c.if-i-streams.false, c.streams.ensures.threads)) in
    let at : clear_allowed_at c.args.i b ≡ Ok tt = asked-there c.args.i (book_clear_answer b) b within ∙ sym c.in-Ok.ensures.value in
    subst (λ (s : SessionOf StreamState). ClearsPackets (session_clear_answer by_state c.args.i s)) c.self.view_is
    (allowed-says (λ t. clear_as_session (state_clear_answer t)) state_after_clear ClearsPackets (clear_allowed_at c.args.i b) c.args.i b
    c.self.inside.streams.items at (c.clear_at.ensures.memory memory))

pub returns-in-Err-clause-value : goal.returns-in-Err-clause-value
returns-in-Err-clause-value g c = λ _.
    let s = c.args.self.now in
    let within : c.args.i < length s.book.threads = omega (arith, c.if-i-streams.false, c.streams.ensures.threads) in
    let book : c.self.inside.book ≡ s.book = ap (λ (t : SessionOf StreamState). t.book) c.self.view_is in
    let at : clear_allowed_at c.args.i s.book ≡ Err c.in-Err.fault =
    asked-there c.args.i (book_clear_answer s.book) s.book within ∙ ap book_clear_answer (sym book) ∙ sym c.in-Err.ensures.value in
    refused-asked (λ t. clear_as_session (state_clear_answer t)) state_after_clear (clear_allowed_at c.args.i s.book) c.args.i s
    c.in-Err.fault at
