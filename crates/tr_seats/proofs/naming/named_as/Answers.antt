use Rattle.std.proofs.Common.{◌≡◌, ◌∙◌, Some, ap, arith, subst, sym}
use Rattle.std.proofs.lemmas.Option.{get_or_from_slice_get, slice_get_within}
use Rattle.tr_accounts.specs.Seats.{desk_seat, producer_seat}
use Rattle.tr_accounts.specs.declared.step.StreamStep.{StreamStep}
use Rattle.tr_journal.specs.Journals.{SeatState}
use Rattle.tr_ledger.specs.Ledgers.{LedgerState}
use Rattle.tr_seats.proofs.AccountLemmas.{kept-new, seat-new}
use Rattle.tr_seats.proofs.NameLemmas.{books-opened, planned-there, seats-opened}
use Rattle.tr_seats.proofs.naming.named_as.Goals as goal
use Rattle.tr_seats.specs.Accounts.{IsSeatAt}
use Rattle.tr_seats.specs.Books.{Books, books_at, no_books}
use Rattle.tr_seats.specs.Plans.{PlannedState}
use Rattle.tr_tally.specs.Tallies.{TellerState}

pub invariant_of-slot : goal.invariant_of-slot
invariant_of-slot g c =
    let plan = g.N.Names.plan in
    let in_it = c.planned.inside in
    let is = c.planned.invariant in
    let here : books_at plan.books c.args.number ≡ c.args.planned.books =
    get_or_from_slice_get plan.books c.args.number c.args.planned.books no_books c.requires.books in
    let books = ap (λ (p : PlannedState). p.books) c.planned.view_is ∙ sym here in
    let got = c.requires.stream ∙ ap (λ (p : PlannedState). Some p.stream) (sym c.planned.view_is) in (
      slice_get_within plan.books c.args.number c.args.planned.books c.requires.books,
      books-opened (books_at plan.books c.args.number) in_it.stream in_it.offered.0 in_it.discarded.0 in_it.overwritten.0
          in_it.overwritten_packets.0 in_it.consumed.0 in_it.cuts.0 in_it.cleared.0 in_it.offered.1 in_it.discarded.1 in_it.overwritten.1
          in_it.overwritten_packets.1 in_it.consumed.1 in_it.cuts.1 in_it.cleared.1 in_it.account.0.table books is.0 is.1 is.2 is.3 is.4 is.5 is.6
          is.7,
      planned-there plan c.args.number in_it.stream got,
      kept-new (books_at plan.books c.args.number).journal in_it.stream in_it.consumed.0.made in_it.account.0
          (ap (λ (b : Books). b.journal) books) is.8 (ap (λ (l : LedgerState). l.made) is.5.0) is.0,
    )

pub invariant_of-producer : goal.invariant_of-producer
invariant_of-producer g c =
    let plan = g.N.Names.plan in
    let in_it = c.planned.inside in
    let is = c.planned.invariant in
    let here : books_at plan.books c.args.number ≡ c.args.planned.books =
    get_or_from_slice_get plan.books c.args.number c.args.planned.books no_books c.requires.books in
    let books = ap (λ (p : PlannedState). p.books) c.planned.view_is ∙ sym here in
    let teller = ap (λ (p : PlannedState). p.teller) c.planned.view_is ∙ c.requires.teller in (
      slice_get_within plan.books c.args.number c.args.planned.books c.requires.books,
      seats-opened (books_at plan.books c.args.number) in_it.offered.0 in_it.discarded.0 in_it.overwritten.0
          in_it.overwritten_packets.0 in_it.offered.1 in_it.discarded.1 in_it.overwritten.1 in_it.overwritten_packets.1
          (ap (λ (b : Books). b.offered) books) (ap (λ (b : Books). b.discarded) books) (ap (λ (b : Books). b.overwritten) books)
          (ap (λ (b : Books). b.overwritten_packets) books) is.1 is.2 is.3 is.4,
      record {
        table_is = ap (λ (t : TellerState). t.table) teller;
        stream_is = ap (λ (t : TellerState). t.stream) teller;
        within = omega (arith, ap (λ (t : TellerState). t.count) teller);
      },
      seat-new (books_at plan.books c.args.number).journal producer_seat in_it.account.0 in_it.account.1
          (ap (λ (b : Books). b.journal) books) is.9,
    )

pub returns-clause-operations : goal.returns-clause-operations
returns-clause-operations g c =
    let plan = g.N.Names.plan in
    let in_it = c.planned.inside in
    let here : books_at plan.books c.args.number ≡ c.args.planned.books =
    get_or_from_slice_get plan.books c.args.number c.args.planned.books no_books c.requires.books in
    let books = ap (λ (p : PlannedState). p.books) c.planned.view_is ∙ sym here in
    let seat = c.planned.invariant.10 in (
      subst (IsSeatAt (books_at plan.books c.args.number).journal desk_seat) (sym c.of.ensures)
          (seat-new (books_at plan.books c.args.number).journal desk_seat in_it.account.0 in_it.account.2 (ap (λ (b : Books). b.journal) books) seat),
      ap (λ (s : SeatState StreamStep). s.own) (c.of.ensures ∙ seat),
    )
