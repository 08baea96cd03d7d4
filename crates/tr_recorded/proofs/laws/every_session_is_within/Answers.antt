use Rattle.std.proofs.Common.{◌≡◌, ◌∙◌, ◌<◌, ◌≤◌, ◌^◌, ℕ, List, ap, length, rules, subst}
use Rattle.std.specs.List.{All}
use Rattle.tr_events.specs.Declarations.{AreDeclared}
use Rattle.tr_recorded.proofs.laws.every_session_is_within.Goals as goal
use Rattle.tr_session_book.specs.Book.{SessionBookState}
use Rattle.tr_session_book.specs.BookSteps.{IsBook}
use Rattle.tr_session_book.specs.declared.archive.Archive.{Archive}
use Rattle.tr_survey.proofs.DeclaringLemmas.{events_declared}
use Rattle.tr_survey.proofs.TypedMetadataLemmas.{typed_metadata_are_of_trace}
use Rattle.tr_terms.specs.Offsets.{IsOffset}
use Rattle.tr_terms.specs.declared.limits.TheConstants.{LAST_MOMENT, MOST_STREAMS}

pub returns-clause-book : goal.returns-clause-book
returns-clause-book g c = subst IsBook c.book.ensures c.every_book_obeys.ensures.book

pub returns-clause-begin : goal.returns-clause-begin
returns-clause-begin g c = subst (λ (b : SessionBookState). b.begin ≤ LAST_MOMENT) c.book.ensures c.every_book_obeys.ensures.within

pub returns-clause-offset : goal.returns-clause-offset
returns-clause-offset g c =
    subst IsOffset (c.get.ensures.value ∙ c.offset.ensures ∙ ap (λ (b : SessionBookState). b.offset) c.book-3.ensures) c.get.ensures.within

pub returns-clause-read : goal.returns-clause-read
returns-clause-read g c =
    let s = c.args.session.now in
    let uuid : c.uuid-uuid.result ≡ s.book.uuid = c.uuid-uuid.ensures ∙ ap (λ (b : SessionBookState). b.uuid) c.book-2.ensures in
    let own-sixteen : length c.uuid-uuid.result ≡ 16 = search rules in
    let own-bytes : All (λ b. b < 256) c.uuid-uuid.result = subst (All (λ b. b < 256)) c.as_bytes.ensures c.bytes_fit.ensures in
    let declared : AreDeclared s.book.events =
    subst AreDeclared (c.events.ensures ∙ ap (λ (b : SessionBookState). b.events) c.book-5.ensures) c.list.ensures.stand in
    typed_metadata_are_of_trace s.book.events s.book.uuid declared
    (subst (λ (u : List ℕ). length u ≡ 16) uuid own-sixteen) (subst (All (λ b. b < 256)) uuid own-bytes)

pub returns-clause-declared : goal.returns-clause-declared
returns-clause-declared g c =
    let s = c.args.session.now in
    let declared : AreDeclared s.book.events =
    subst AreDeclared (c.events.ensures ∙ ap (λ (b : SessionBookState). b.events) c.book-5.ensures) c.list.ensures.stand in
    events_declared s.book.events s.book.uuid declared

pub returns-clause-archives : goal.returns-clause-archives
returns-clause-archives g c =
    let s = c.args.session.now in
    let archives : c.archives.result.now ≡ s.book.archives =
    c.archives.ensures.value ∙ ap (λ (b : SessionBookState). b.archives) c.book-4.ensures in
    let own-few : length c.archives.result.now ≤ 2 ^ 64 = search rules in
    subst (λ (l : List Archive). length l ≤ 2 ^ 64) archives own-few

pub returns-clause-streams : goal.returns-clause-streams
returns-clause-streams g c = subst (λ (n : ℕ). n ≤ MOST_STREAMS) c.streams.ensures.value c.streams.ensures.within

pub returns-clause-own : goal.returns-clause-own
returns-clause-own g c = c.streams.ensures.own
