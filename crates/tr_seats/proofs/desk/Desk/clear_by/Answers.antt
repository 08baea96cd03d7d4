use Rattle.std.proofs.Common.{rules, ◌≡◌, ◌∙◌, ◌+◌, ◌<◌, ℕ, ap, arith, length, subst, sym}
use Rattle.std.proofs.lemmas.Grind.{common_steps}
use Rattle.std.proofs.lemmas.List.{length-map}
use Rattle.std.specs.Prelude.{slice_index, slice_set}
use Rattle.tr_seats.proofs.ClearLemmas.{refused-mode}
use Rattle.tr_seats.proofs.DeskLemmas.{desk-cleared}
use Rattle.tr_seats.proofs.PlannedLemmas.{planned-mode}
use Rattle.tr_seats.proofs.Rows.{amounts-raised, cleared-at, length-seats, table-there}
use Rattle.tr_seats.proofs.desk.Desk.clear_by.Goals as goal
use Rattle.tr_seats.specs.Books.{Books, books_at, cleared_books, no_books, no_table}
use Rattle.tr_seats.specs.Desks.{DeskState, IsDesk, NotedState, desk_state}
use Rattle.tr_seats.specs.Slots.{amounts_of}

pub index_mut-requires : goal.index_mut-requires
index_mut-requires g c =
    let books = g.N.Names.plan.books in
    let seats = length-seats (cleared_books books) c.self.inside.cleared.items c.self.invariant.cleared_are in
    omega (arith, c.number.ensures.there, c.number.ensures.number, seats, length-map books (λ (b : Books). b.cleared))

pub clear-requires-clause-cleared : goal.clear-requires-clause-cleared
clear-requires-clause-cleared g c =
    let books = g.N.Names.plan.books in
    let i = c.args.i in
    let here : i ≡ c.number.result = search rules in
    let lt : i < length books = subst (λ (n : ℕ). n < length books) (sym here) c.number.ensures.there in
    let wide : i < length (cleared_books books) = omega (arith, lt, length-map books (λ (b : Books). b.cleared)) in
    table-there (cleared_books books) c.self.inside.cleared.items i c.index_mut.result.now c.self.invariant.cleared_are wide
    c.index_mut.ensures.value no_table
    ∙ cleared-at books i no_books lt ∙ ap (λ (n : ℕ). (books_at books n).cleared) (here ∙ c.number.ensures.number)

pub invariant_of-self-2 : goal.invariant_of-self-2
invariant_of-self-2 g c =
    let plan = g.N.Names.plan in
    let old = c.self.inside in
    let i = c.args.i in
    let here : i ≡ c.number.result = search rules in
    let lt : i < length plan.books = subst (λ (n : ℕ). n < length plan.books) (sym here) c.number.ensures.there in
    subst (λ (b : NotedState). IsDesk plan b.book old.consumed.items old.cuts.items (slice_set old.cleared.items i c.clear.new.cleared)) (sym c.clear.ensures.same)
    (desk-cleared plan old.book.book old.consumed.items old.cuts.items old.cleared.items i c.index_mut.result.now c.self.invariant lt
    c.index_mut.ensures.value c.in-Ok.done.records c.clear.new.cleared c.in-Ok.ensures.seat)

pub returns-clause-seats : goal.returns-clause-seats
returns-clause-seats g c =
    let books = g.N.Names.plan.books in
    let old = c.self.inside in
    let i = c.args.i in
    let here : i ≡ c.number.result = search rules in
    let lt : i < length books = subst (λ (n : ℕ). n < length books) (sym here) c.number.ensures.there in
    let cleared = amounts-raised (cleared_books books) old.cleared.items i c.index_mut.result.now c.self.invariant.cleared_are
    (omega (arith, lt, length-map books (λ (b : Books). b.cleared))) c.index_mut.ensures.value c.clear.new.cleared
    c.in-Ok.done.records c.in-Ok.ensures.seat in
    (λ j. desk_state (c.clear.ensures.same j) old.drainers (amounts_of old.consumed.items) (amounts_of old.cuts.items) (cleared j))
    ∙ ap (λ (d : DeskState). record d { cleared = slice_set d.cleared i (slice_index d.cleared i + c.in-Ok.done.records) }) c.self.view_is

pub invariant_of-self : goal.invariant_of-self
invariant_of-self g c = grind (arith, common_steps)

pub returns-in-Err-clear-clause-mode : goal.returns-in-Err-clear-clause-mode
returns-in-Err-clear-clause-mode g c = λ same.
    let slot = c.args.slot.now in
    let own = refused-mode slot.stream c.in-Err-clear.fault c.clear_fault.result c.clear_fault.ensures (λ not. (c.in-Err-clear.ensures.value not).0) same in
    sym (planned-mode g.N.Names.plan c.self.invariant.planned slot.number slot.stream.config c.in-Err-clear.ensures.planned) ∙ own
