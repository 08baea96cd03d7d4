use Rattle.std.proofs.Common.{◌∙◌, ap, sym, None, Some, true, ◌≡◌, rules, arith}
use Rattle.std.proofs.lemmas.Grind.{common_steps}
use Rattle.tr_session_book.proofs.BookLemmas.{place-full, place-left, thread_place-is}
use Rattle.tr_session_book.proofs.NameLemmas.{lookup-by_name}
use Rattle.tr_session_book.proofs.book.SessionBook.channel_at.Goals as goal
use Rattle.tr_session_book.specs.Book.{SessionBookState}
use Rattle.tr_session_book.specs.BookSteps.{is_new, channel_named}

pub returns-in_default-clause-err : goal.returns-in_default-clause-err
returns-in_default-clause-err g c =
    let fresh : is_new c.args.self.now.state ≡ true = search rules in
    thread_place-is c.args.name.now c.self.inside.channels.entries c.args.self.now None
    (ap (λ (b : SessionBookState). b.channels) c.self.view_is) fresh c.in_default.ensures.index

pub returns-then-streams-ge-MOST_STREAMS-clause-err : goal.returns-then-streams-ge-MOST_STREAMS-clause-err
returns-then-streams-ge-MOST_STREAMS-clause-err g c =
    let fresh : is_new c.args.self.now.state ≡ true = search rules in
    thread_place-is c.args.name.now c.self.inside.channels.entries c.args.self.now (Some c.in-Some.place)
    (ap (λ (b : SessionBookState). b.channels) c.self.view_is) fresh c.in-Some.ensures.index
    ∙ place-full c.args.self.now c.in-Some.place c.streams.result c.streams.ensures.value c.if-streams-ge-MOST_STREAMS.true

pub returns-clause-place : goal.returns-clause-place
returns-clause-place g c =
    let fresh : is_new c.args.self.now.state ≡ true = search rules in
    thread_place-is c.args.name.now c.self.inside.channels.entries c.args.self.now (Some c.in-Some.place)
    (ap (λ (b : SessionBookState). b.channels) c.self.view_is) fresh c.in-Some.ensures.index
    ∙ place-left c.args.self.now c.in-Some.place c.streams.result c.streams.ensures.value c.if-streams-ge-MOST_STREAMS.false

pub returns-clause-channel : goal.returns-clause-channel
returns-clause-channel g c =
    sym (c.in-Some.ensures.value ∙ lookup-by_name c.args.name.now c.self.inside.channels.entries
    ∙ ap (λ (b : SessionBookState). channel_named c.args.name.now b) c.self.view_is)

pub returns-clause-bare : goal.returns-clause-bare
returns-clause-bare g c = grind (arith, common_steps)
