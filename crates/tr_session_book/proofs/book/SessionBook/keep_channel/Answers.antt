use Rattle.std.proofs.Common.{◌≡◌, ◌∙◌, ◌≤◌, ap, sym, subst, arith, List, [], ◌∷◌, ◌++◌, ℕ, is_some, length, length-append}
use Rattle.tr_session_book.proofs.NameLemmas.{insert_entry-new_name, is_some-by_name, named-more}
use Rattle.tr_session_book.proofs.book.SessionBook.keep_channel.Goals as goal
use Rattle.tr_session_book.specs.Book.{SessionBookState, session_book_state}
use Rattle.tr_session_book.specs.BookSteps.{channel_named, with_channel}
use Rattle.tr_session_book.specs.Names.{AreNamed, by_name}
use Rattle.tr_session_book.specs.declared.channel.Channel.{Channel}
use Rattle.tr_terms.specs.declared.limits.TheConstants.{MOST_CHANNELS}

pub returns-clause-ok : goal.returns-clause-ok
returns-clause-ok g c =
    let name = c.args.name.now in
    let es = c.self.inside.channels.entries in
    let free = is_some-by_name name es ∙ ap (λ (b : SessionBookState). is_some (channel_named name b)) c.self.view_is ∙ c.requires.free in
    let added = insert_entry-new_name name es c.insert.new.self.entries c.in_ok-name.name c.args.channel
    (c.in_ok-name.ensures.ok ∙ c.as_str.ensures.value) free c.in_ok-insert.ensures.entries in
    ap (λ (cs : List (List ℕ × Channel)).
    (let b : SessionBookState =
    session_book_state c.self.inside.uuid c.self.inside.offset c.self.inside.mode c.self.inside.state
    c.self.inside.rotated c.self.inside.last c.self.inside.begin cs c.self.inside.threads.items c.self.inside.pending
    c.self.inside.archives.items c.self.inside.schedule c.self.inside.events in b)) added
    ∙ ap (λ (b : SessionBookState). with_channel name c.args.channel b) c.self.view_is

pub invariant_of-self-2 : goal.invariant_of-self-2
invariant_of-self-2 g c =
    let name = c.args.name.now in
    let es = c.self.inside.channels.entries in
    let kept = c.self.invariant.1 in
    let free = is_some-by_name name es ∙ ap (λ (b : SessionBookState). is_some (channel_named name b)) c.self.view_is ∙ c.requires.free in
    let added : by_name c.insert.new.self.entries ≡ by_name es ++ (name, c.args.channel) ∷ [] =
    insert_entry-new_name name es c.insert.new.self.entries c.in_ok-name.name c.args.channel
    (c.in_ok-name.ensures.ok ∙ c.as_str.ensures.value) free c.in_ok-insert.ensures.entries in
    let fits : length (by_name c.insert.new.self.entries) ≤ MOST_CHANNELS =
    omega (
      arith,
      ap length added,
      length-append (by_name es) ((name, c.args.channel) ∷ []),
      ap (λ (b : SessionBookState). length b.channels) c.self.view_is,
      c.requires.room,
    ) in
    let named = subst AreNamed (sym added) (named-more (by_name es) name c.args.channel kept.4 c.as_str.ensures.name) in
    (c.self.invariant.0, ((fits, kept.0.1), kept.1, kept.2, kept.3, named, kept.5))
