use Rattle.std.proofs.Common.{◌≡◌, ◌∙◌, ◌+◌, ◌<◌, ℕ, Ok, ap, arith, length, subst, sym}
use Rattle.std.proofs.lemmas.Grind.{common_steps}
use Rattle.std.proofs.lemmas.List.{length-map}
use Rattle.std.specs.Prelude.{slice_index, slice_set}
use Rattle.tr_seats.proofs.DeskLemmas.{desk-cut}
use Rattle.tr_seats.proofs.Rows.{amounts-raised, consumed-at, cuts-at, table-there}
use Rattle.tr_seats.proofs.desk.Desk.cut_at.Goals as goal
use Rattle.tr_seats.specs.Books.{Books, books_at, consumed_books, cut_books, no_books, no_table}
use Rattle.tr_seats.specs.Desks.{DeskState, IsDesk, NotedState, desk_state}
use Rattle.tr_seats.specs.Slots.{amounts_of}
use Rattle.tr_session_book.specs.BookSteps.{cut_moment, with_cut}

pub cut-requires-clause-consumed : goal.cut-requires-clause-consumed
cut-requires-clause-consumed g c =
    let books = g.N.Names.plan.books in
    let lt = c.requires.here.1 in
    let wide : c.args.i < length (consumed_books books) = omega (arith, lt, length-map books (λ (b : Books). b.consumed)) in
    table-there (consumed_books books) c.self.inside.consumed.items c.args.i c.index_mut.result.now c.self.invariant.consumed_are
    wide c.index_mut.ensures.value no_table
    ∙ consumed-at books c.args.i no_books lt ∙ ap (λ (n : ℕ). (books_at books n).consumed) c.requires.here.0

pub cut-requires-clause-cuts : goal.cut-requires-clause-cuts
cut-requires-clause-cuts g c =
    let books = g.N.Names.plan.books in
    let lt = c.requires.here.1 in
    let wide : c.args.i < length (cut_books books) = omega (arith, lt, length-map books (λ (b : Books). b.cuts)) in
    table-there (cut_books books) c.self.inside.cuts.items c.args.i c.index_mut-2.result.now c.self.invariant.cuts_are
    wide c.index_mut-2.ensures.value no_table
    ∙ cuts-at books c.args.i no_books lt ∙ ap (λ (n : ℕ). (books_at books n).cuts) c.requires.here.0

pub invariant_of-self-2 : goal.invariant_of-self-2
invariant_of-self-2 g c =
    let plan = g.N.Names.plan in
    let old = c.self.inside in
    let i = c.args.i in
    let due : cut_moment i old.book.book ≡ Ok c.args.moment =
    subst (λ (d : DeskState). cut_moment i d.book ≡ Ok c.args.moment) (sym c.self.view_is) c.requires.due in
    let consumed = slice_set old.consumed.items i c.cut.new.consumed in
    let cuts = slice_set old.cuts.items i c.cut.new.cuts in
    subst (λ (b : NotedState). IsDesk plan b.book consumed cuts old.cleared.items) (sym c.in-Ok.ensures.after)
    (desk-cut plan old.book.book old.consumed.items old.cuts.items old.cleared.items i c.args.moment c.index_mut.result.now c.index_mut-2.result.now
    c.self.invariant due c.requires.here.1 c.index_mut.ensures.value c.index_mut-2.ensures.value c.in-Ok.done.records
    c.cut.new.consumed c.cut.new.cuts c.in-Ok.ensures.consumed c.in-Ok.ensures.cuts)

pub returns-clause-seats : goal.returns-clause-seats
returns-clause-seats g c =
    let books = g.N.Names.plan.books in
    let old = c.self.inside in
    let i = c.args.i in
    let lt = c.requires.here.1 in
    let book = c.in-Ok.ensures.after in
    let consumed = amounts-raised (consumed_books books) old.consumed.items i c.index_mut.result.now c.self.invariant.consumed_are
    (omega (arith, lt, length-map books (λ (b : Books). b.consumed))) c.index_mut.ensures.value c.cut.new.consumed
    c.in-Ok.done.records c.in-Ok.ensures.consumed in
    let cuts = amounts-raised (cut_books books) old.cuts.items i c.index_mut-2.result.now c.self.invariant.cuts_are
    (omega (arith, lt, length-map books (λ (b : Books). b.cuts))) c.index_mut-2.ensures.value c.cut.new.cuts 1
    c.in-Ok.ensures.cuts in
    (λ j. desk_state (book j) old.drainers (consumed j) (cuts j) (amounts_of old.cleared.items))
    ∙ ap (λ (d : DeskState). record d {
      book = with_cut d.book;
      consumed = slice_set d.consumed i (slice_index d.consumed i + c.in-Ok.done.records);
      cuts = slice_set d.cuts i (slice_index d.cuts i + 1);
    }) c.self.view_is

pub index_mut-requires : goal.index_mut-requires
index_mut-requires g c = grind (arith, common_steps)

pub index_mut-requires-2 : goal.index_mut-requires-2
index_mut-requires-2 g c = grind (arith, common_steps)

pub invariant_of-self : goal.invariant_of-self
invariant_of-self g c = grind (arith, common_steps)

pub returns-in-Err-clause-seats : goal.returns-in-Err-clause-seats
returns-in-Err-clause-seats g c = grind (arith, common_steps)
