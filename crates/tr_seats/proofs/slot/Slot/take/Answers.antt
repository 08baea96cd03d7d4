use Rattle.std.proofs.Common.{rules, ◌≡◌, ◌∙◌, ◌+◌, ◌<◌, Ok, length, ap, arith, subst, sym}
use Rattle.std.proofs.lemmas.Grind.{common_steps}
use Rattle.std.proofs.lemmas.List.{length-map}
use Rattle.tr_accounts.specs.Seats.{desk_seat}
use Rattle.tr_accounts.specs.declared.step.StreamStep.{StreamStep}
use Rattle.tr_journal.specs.Journals.{SeatState}
use Rattle.tr_ledger.specs.Ledgers.{LedgerState}
use Rattle.tr_seats.proofs.AccountLemmas.{kept-take}
use Rattle.tr_seats.proofs.CountLemmas.{few-counted, refused-take, take-totals}
use Rattle.tr_seats.proofs.Rows.{amounts-raised, consumed-at, length-seats, row-raised, table-there}
use Rattle.tr_seats.proofs.SlotLemmas.{books-taken}
use Rattle.tr_seats.proofs.TakeLemmas.{seats-after, taken-after}
use Rattle.tr_seats.proofs.slot.Slot.take.Goals as goal
use Rattle.tr_seats.specs.Accounts.{IsKeptAccount}
use Rattle.tr_seats.specs.Books.{AreBooksOf, Books, IsPlanned, books_at, consumed_books, no_books, no_table}
use Rattle.tr_seats.specs.Drainers.{drainer_after, drainer_state}
use Rattle.tr_seats.specs.Sums.{totals_in}
use Rattle.tr_seats.specs.declared.totals.Totals.{Totals}
use Rattle.tr_stream.specs.State.{StreamState}
use Rattle.tr_stream.specs.StateSteps.{state_after_take, state_take_answer}

pub invariant_of-self : goal.invariant_of-self
invariant_of-self g c =
    let old = c.self.inside in
    let same : c.take.new.self ≡ old.stream =
    refused-take old.stream c.take.new.self c.in_err-taken.field-0.0 c.in_err-taken.ensures.value c.in_err-taken.ensures.no_memory in
    subst (λ (t : StreamState). (old.number < length g.N.Names.plan.books)
    × AreBooksOf (books_at g.N.Names.plan.books old.number) t old.consumed.made old.offered old.discarded old.overwritten
    old.overwritten_packets old.consumed old.cuts old.cleared × IsPlanned g.N.Names.plan old.number t.config
    × IsKeptAccount (books_at g.N.Names.plan.books old.number).journal t old.consumed.made old.account) (sym same) c.self.invariant

pub index_mut-requires : goal.index_mut-requires
index_mut-requires g c =
    let lt = c.self.invariant.0 in
    let same : c.args.i ≡ c.self.inside.number = search rules in
    omega (arith, lt, same, c.drainer.invariant.1.many)

pub note_take-requires : goal.note_take-requires
note_take-requires g c =
    let books = g.N.Names.plan.books in
    let i = c.args.i in
    let same : i ≡ c.self.inside.number = search rules in
    let lt : i < length books = subst (λ n. n < length books) (sym same) c.self.invariant.0 in
    ap (λ (s : SeatState StreamStep). s.table) c.index_mut.ensures.value ∙ (c.drainer.invariant.1.each i c.index_mut.result.now lt).0
    ∙ ap (λ n. (books_at books n).journal) same ∙ sym c.self.invariant.3.table_is

pub index_mut-requires-2 : goal.index_mut-requires-2
index_mut-requires-2 g c =
    let lt = c.self.invariant.0 in
    let same : c.args.i ≡ c.self.inside.number = search rules in
    let wide = length-map g.N.Names.plan.books (λ (b : Books). b.consumed) in
    let seats = length-seats (consumed_books g.N.Names.plan.books) c.drainer.inside.seats.items c.drainer.invariant.0 in
    omega (arith, lt, same, wide, seats)

pub raise-requires-clause-seat : goal.raise-requires-clause-seat
raise-requires-clause-seat g c =
    let books = g.N.Names.plan.books in
    let i = c.args.i in
    let same : i ≡ c.self.inside.number = search rules in
    let lt : i < length books = subst (λ n. n < length books) (sym same) c.self.invariant.0 in
    let wide : i < length (consumed_books books) = omega (arith, lt, length-map books (λ (b : Books). b.consumed)) in
    table-there (consumed_books books) c.drainer.inside.seats.items i c.index_mut-2.result.now c.drainer.invariant.0 wide
    c.index_mut-2.ensures.value no_table
    ∙ consumed-at books i no_books lt ∙ ap (λ n. (books_at books n).consumed) same
    ∙ sym (ap (λ (l : LedgerState). l.table) c.self.invariant.1.consumed_is)

pub raise-requires-clause-room : goal.raise-requires-clause-room
raise-requires-clause-room g c =
    let old = c.self.inside in
    let after : c.take.new.self ≡ state_after_take old.stream = search rules in
    let answer : Ok c.in_ok-taken.taken ≡ state_take_answer old.stream = search rules in
    let is = take-totals old.stream c.in_ok-taken.taken c.shows_kept.ensures.kept.sound answer in
    let few = (few-counted c.take.new.self c.shows_kept-2.ensures.kept.sound).consumed in
    let more : (totals_in c.take.new.self).consumed ≡ (totals_in old.stream).consumed + c.in_ok-taken.taken.count =
    ap (λ (t : StreamState). (totals_in t).consumed) after ∙ ap (λ (t : Totals). t.consumed) is.totals in
    let total : old.consumed.total ≡ (totals_in old.stream).consumed = ap (λ (l : LedgerState). l.total) c.self.invariant.1.consumed_is in
    omega (arith, few, more, total)

pub invariant_of-self-2 : goal.invariant_of-self-2
invariant_of-self-2 g c =
    let old = c.self.inside in
    let after : c.take.new.self ≡ state_after_take old.stream = search rules in
    let answer : Ok c.in_ok-taken.taken ≡ state_take_answer old.stream = search rules in
    let is = take-totals old.stream c.in_ok-taken.taken c.shows_kept.ensures.kept.sound answer in
    let planned = subst (IsPlanned g.N.Names.plan old.number) (sym c.in_ok-taken.ensures.config) c.self.invariant.2 in
    let i = c.args.i in
    let same : i ≡ old.number = search rules in
    let lt : i < length g.N.Names.plan.books = subst (λ n. n < length g.N.Names.plan.books) (sym same) c.self.invariant.0 in
    let theirs : desk_seat < c.index_mut.result.now.who =
    subst (λ (s : SeatState StreamStep). desk_seat < s.who) (sym c.index_mut.ensures.value)
    (c.drainer.invariant.1.each i c.index_mut.result.now lt).1 in (
      c.self.invariant.0,
      books-taken (books_at g.N.Names.plan.books old.number) old.stream c.take.new.self old.consumed.made old.offered
          old.discarded old.overwritten old.overwritten_packets old.consumed old.cuts old.cleared c.self.invariant.1
          c.raise.new.self c.in_ok-taken.taken.count (ap totals_in after ∙ is.totals) c.raise.ensures.ledger,
      planned,
      subst (λ m. IsKeptAccount (books_at g.N.Names.plan.books old.number).journal c.take.new.self m c.note_take.new.self)
          (sym (ap (λ (l : LedgerState). l.made) c.raise.ensures.ledger))
          (kept-take (books_at g.N.Names.plan.books old.number).journal old.stream old.consumed.made old.account c.note_take.new.self c.self.invariant.3
          c.take.new.self c.index_mut.result.now.who (Ok c.in_ok-taken.taken) theirs answer after c.note_take.ensures.account),
    )

pub invariant_of-drainer : goal.invariant_of-drainer
invariant_of-drainer g c =
    let books = g.N.Names.plan.books in
    let i = c.args.i in
    let same : i ≡ c.self.inside.number = search rules in
    let lt : i < length books = subst (λ n. n < length books) (sym same) c.self.invariant.0 in
    let wide : i < length (consumed_books books) = omega (arith, lt, length-map books (λ (b : Books). b.consumed)) in (
      row-raised (consumed_books books) c.drainer.inside.seats.items i c.index_mut-2.result.now c.drainer.invariant.0 wide
          c.index_mut-2.ensures.value c.raise.new.seat c.in_ok-taken.taken.count c.raise.ensures.seat,
      seats-after (length books) books c.drainer.inside.takes.items c.drainer.invariant.1 i c.index_mut.result.now c.note_take.new.drainer
          c.in_ok-taken.taken lt c.index_mut.ensures.value c.note_take.ensures.seat,
    )

pub returns-clause-seats : goal.returns-clause-seats
returns-clause-seats g c =
    let books = g.N.Names.plan.books in
    let i = c.args.i in
    let taken = c.in_ok-taken.taken in
    let same : i ≡ c.self.inside.number = search rules in
    let lt : i < length books = subst (λ n. n < length books) (sym same) c.self.invariant.0 in
    let wide : i < length (consumed_books books) = omega (arith, lt, length-map books (λ (b : Books). b.consumed)) in
    let amounts = amounts-raised (consumed_books books) c.drainer.inside.seats.items i c.index_mut-2.result.now c.drainer.invariant.0 wide
    c.index_mut-2.ensures.value c.raise.new.seat taken.count c.raise.ensures.seat in
    let packets = taken-after (length books) books c.drainer.inside.takes.items c.drainer.invariant.1 i c.index_mut.result.now
    c.note_take.new.drainer taken lt c.index_mut.ensures.value c.note_take.ensures.seat in
    (λ k. drainer_state (amounts k) (packets k)) ∙ ap (drainer_after (Ok taken) i) c.drainer.view_is

pub returns-clause-some : goal.returns-clause-some
returns-clause-some g c =
    let answer : Ok c.in_ok-taken.taken ≡ state_take_answer c.self.inside.stream = search rules in
    (take-totals c.self.inside.stream c.in_ok-taken.taken c.shows_kept.ensures.kept.sound answer).some

pub returns-in_err-taken-clause-value : goal.returns-in_err-taken-clause-value
returns-in_err-taken-clause-value g c = grind (arith, common_steps)

pub returns-in_err-taken-clause-memory : goal.returns-in_err-taken-clause-memory
returns-in_err-taken-clause-memory g c = grind (arith, common_steps)
