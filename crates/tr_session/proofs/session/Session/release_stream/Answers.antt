use Rattle.std.proofs.Common.{◌≡◌, ◌≤◌, ◌∙◌, ◌<◌, Err, Ok, List, ap, arith, length, subst, sym}
use Rattle.tr_session.proofs.AskedLemmas.{allowed-asked, allowed-says, asked-past, asked-there, refused-asked, step-asked}
use Rattle.tr_session.proofs.StreamLemmas.{release-keeps}
use Rattle.tr_session.proofs.session.Session.release_stream.Goals as goal
use Rattle.tr_session.specs.Session.{SessionOf}
use Rattle.tr_session.specs.Steps.{ReleasesPackets, release_allowed_at, release_as_session, session_after_release, session_release_answer}
use Rattle.tr_session_book.specs.Book.{SessionBookState}
use Rattle.tr_session_book.specs.BookSteps.{book_release_answer}
use Rattle.tr_session_book.specs.declared.faults.SessionFault.TheVariants.{NoStream}
use Rattle.tr_stream.specs.Rules.{by_state}
use Rattle.tr_stream.specs.State.{StreamState}
use Rattle.tr_stream.specs.StateSteps.{state_after_release, state_release_answer}

pub returns-then-i-streams-clause-value : goal.returns-then-i-streams-clause-value
returns-then-i-streams-clause-value g c = λ _.
    let s = c.args.self.now in
    let past : length s.book.threads ≤ c.args.i = omega (arith, c.if-i-streams.true, c.streams.ensures.threads) in
    refused-asked (λ t. release_as_session (state_release_answer c.args.k t)) (state_after_release c.args.k) (release_allowed_at c.args.i c.args.k s.book) c.args.i s
    NoStream (asked-past c.args.i (book_release_answer c.args.k s.book) s.book past)

pub invariant_of-self : goal.invariant_of-self
invariant_of-self g c =
    step-asked (λ t. release_as_session (state_release_answer c.args.k t)) (state_after_release c.args.k) c.release_at.result c.self.inside.book
    c.self.inside.streams.items c.release_at.new.streams.items c.args.i (release-keeps c.args.k) c.release_at.ensures.value
    c.release_at.ensures.no_memory c.self.invariant

pub returns-in-Ok-clause-value : goal.returns-in-Ok-clause-value
returns-in-Ok-clause-value g c = λ not_memory.
    let b = c.self.inside.book in
    let book : c.args.self.now.book ≡ b = ap (λ (s : SessionOf StreamState). s.book) (sym c.self.view_is) in
    let within : c.args.i < length b.threads =
    subst (λ (d : SessionBookState). c.args.i < length d.threads) book (omega (arith, c.if-i-streams.false, c.streams.ensures.threads)) in
    let at : release_allowed_at c.args.i c.args.k b ≡ Ok tt = asked-there c.args.i (book_release_answer c.args.k b) b within ∙ sym c.in-Ok.ensures in
    let did = c.release_at.ensures.value not_memory in
    let told = allowed-asked (λ t. release_as_session (state_release_answer c.args.k t)) (state_after_release c.args.k) (release_allowed_at c.args.i c.args.k b) c.args.i b
    c.self.inside.streams.items c.release_at.new.streams.items c.release_at.result at did.0 did.1 in (
      told.0 ∙ ap (session_release_answer by_state c.args.i c.args.k) c.self.view_is,
      told.1 ∙ ap (session_after_release by_state c.args.i c.args.k) c.self.view_is,
    )

pub returns-in-Ok-clause-no_memory : goal.returns-in-Ok-clause-no_memory
returns-in-Ok-clause-no_memory g c = λ memory.
    ap (λ (xs : List StreamState).
    (let s : SessionOf StreamState = record { book = c.self.inside.book; streams = xs } in s))
    (c.release_at.ensures.no_memory memory)
    ∙ c.self.view_is

pub returns-in-Ok-clause-memory : goal.returns-in-Ok-clause-memory
returns-in-Ok-clause-memory g c = λ memory.
    let b = c.self.inside.book in
    let book : c.args.self.now.book ≡ b = ap (λ (s : SessionOf StreamState). s.book) (sym c.self.view_is) in
    let within : c.args.i < length b.threads =
    subst (λ (d : SessionBookState). c.args.i < length d.threads) book (omega (arith, c.if-i-streams.false, c.streams.ensures.threads)) in
    let at : release_allowed_at c.args.i c.args.k b ≡ Ok tt = asked-there c.args.i (book_release_answer c.args.k b) b within ∙ sym c.in-Ok.ensures in
    subst (λ (s : SessionOf StreamState). ReleasesPackets (session_release_answer by_state c.args.i c.args.k s)) c.self.view_is
    (allowed-says (λ t. release_as_session (state_release_answer c.args.k t)) (state_after_release c.args.k) ReleasesPackets (release_allowed_at c.args.i c.args.k b) c.args.i b
    c.self.inside.streams.items at (c.release_at.ensures.memory memory))

pub returns-in-Err-clause-value : goal.returns-in-Err-clause-value
returns-in-Err-clause-value g c = λ _.
    let s = c.args.self.now in
    let within : c.args.i < length s.book.threads = omega (arith, c.if-i-streams.false, c.streams.ensures.threads) in
    let book : c.self.inside.book ≡ s.book = ap (λ (t : SessionOf StreamState). t.book) c.self.view_is in
    let at : release_allowed_at c.args.i c.args.k s.book ≡ Err c.in-Err.fault =
    asked-there c.args.i (book_release_answer c.args.k s.book) s.book within ∙ ap (book_release_answer c.args.k) (sym book) ∙ sym c.in-Err.ensures in
    refused-asked (λ t. release_as_session (state_release_answer c.args.k t)) (state_after_release c.args.k) (release_allowed_at c.args.i c.args.k s.book) c.args.i s
    c.in-Err.fault at
