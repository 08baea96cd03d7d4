use Rattle.std.proofs.Common.{◌≡◌, ◌∙◌, ◌<◌, ℕ, ap, arith, length, sym}
use Rattle.std.proofs.lemmas.Grind.{common_steps}
use Rattle.std.proofs.lemmas.List.{length-map}
use Rattle.std.specs.Prelude.{slice_index}
use Rattle.tr_ledger.specs.Ledgers.{SeatState}
use Rattle.tr_seats.proofs.Rows.{amount-at, cuts-at, length-seats, mark-there, table-there}
use Rattle.tr_seats.proofs.desk.Desk.audit.Goals as goal
use Rattle.tr_seats.specs.Books.{Books, books_at, cut_books, no_books, no_table}
use Rattle.tr_seats.specs.Slots.{amounts_of}
use Rattle.tr_session_book.specs.BookSteps.{chunks_closed}

pub index_mut-requires : goal.index_mut-requires
index_mut-requires g c =
    let books = g.N.Names.plan.books in
    let seats = length-seats (cut_books books) c.self.inside.cuts.items c.self.invariant.cuts_are in
    omega (arith, c.number-i.ensures.there, seats, length-map books (λ (b : Books). b.cuts))

pub audit_cuts-requires : goal.audit_cuts-requires
audit_cuts-requires g c =
    let books = g.N.Names.plan.books in
    let i = c.number-i.result in
    let lt : i < length books = c.number-i.ensures.there in
    let wide : i < length (cut_books books) = omega (arith, lt, length-map books (λ (b : Books). b.cuts)) in
    table-there (cut_books books) c.self.inside.cuts.items i c.index_mut.result.now c.self.invariant.cuts_are wide
    c.index_mut.ensures.value no_table
    ∙ cuts-at books i no_books lt ∙ ap (λ (n : ℕ). (books_at books n).cuts) c.number-i.ensures.number

pub returns-clause-operator : goal.returns-clause-operator
returns-clause-operator g c =
    let books = g.N.Names.plan.books in
    let cuts = c.self.inside.cuts.items in
    let i = c.number-i.result in
    let seat = c.index_mut.result.now in
    let lt : i < length books = c.number-i.ensures.there in
    let wide : i < length (cut_books books) = omega (arith, lt, length-map books (λ (b : Books). b.cuts)) in
    let here : i < length cuts = omega (arith, wide, length-seats (cut_books books) cuts c.self.invariant.cuts_are) in
    let mark = mark-there (cut_books books) cuts i seat c.self.invariant.cuts_are wide c.index_mut.ensures.value in
    let amount : slice_index (amounts_of cuts) i ≡ seat.amount =
    amount-at cuts i seat here ∙ ap (λ (s : SeatState). s.amount) (sym c.index_mut.ensures.value) in
    sym (c.audit_cuts.ensures.whole mark) ∙ sym amount ∙ c.self.invariant.operator i lt
    ∙ (λ j. chunks_closed (c.number-i.ensures.number j) (c.self.view_is j).book)

pub invariant_of-self : goal.invariant_of-self
invariant_of-self g c = grind (arith, common_steps)

pub returns-clause-same : goal.returns-clause-same
returns-clause-same g c = grind (arith, common_steps)
