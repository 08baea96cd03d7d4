use Rattle.std.proofs.Common.{◌∙◌, ◌≡◌, List, ℕ, Some, ap, subst, sym}
use Rattle.std.specs.Prelude.{option_copied, slice_get}
use Rattle.tr_session_book.proofs.BookLemmas.{channel_of-is}
use Rattle.std.specs.String.{string_bytes}
use Rattle.tr_session_book.proofs.ListLemmas.{copied-item}
use Rattle.tr_session_book.proofs.NameLemmas.{name-made, named-at}
use Rattle.tr_session_book.proofs.book.SessionBook.channel_of.Goals as goal
use Rattle.tr_session_book.specs.Book.{SessionBookState}
use Rattle.tr_terms.specs.Names.{is_name}

pub returns : goal.returns
returns g c =
    let thread : slice_get c.deref.result.now c.args.i ≡ Some c.in_ok-place.place.now =
    sym (copied-item c.deref.result.now c.args.i c.get.result c.get.ensures.lookup) ∙ ap option_copied c.in_ok-place.was in
    let name = string_bytes c.in_ok-name.name.now in
    let named = named-at c.self.inside.channels.entries c.in_ok-place.place.now
    (c.in_ok-name.name.now, c.in_ok-name.field-0-1.now) c.self.invariant.1.4 (sym c.in_ok-name.ensures.entry) in
    let made : c.new.result ≡ Some name = subst (λ (text : List ℕ). c.new.result ≡ Some text) c.as_str.ensures.value
    (name-made c.new.result c.as_str.result.now (c.new.ensures.succeeds.1 (ap is_name c.as_str.ensures.value ∙ named)) c.new.ensures.value) in
    made
    ∙ sym (channel_of-is c.self.inside.channels.entries c.deref.result.now c.args.self.now c.args.i c.in_ok-place.place.now
    (c.in_ok-name.name.now, c.in_ok-name.field-0-1.now)
    (ap (λ (b : SessionBookState). b.channels) c.self.view_is)
    (c.deref.ensures.value ∙ ap (λ (b : SessionBookState). b.threads) c.self.view_is) thread
    (sym c.in_ok-name.ensures.entry))
