use Rattle.std.proofs.Common.{rules, ◌≡◌, ◌∙◌, ◌+◌, ◌<◌, Ok, ap, arith, length, subst, sym}
use Rattle.std.proofs.lemmas.Grind.{common_steps}
use Rattle.tr_ledger.specs.Ledgers.{LedgerState}
use Rattle.tr_seats.proofs.AccountLemmas.{kept-cut}
use Rattle.tr_seats.proofs.CountLemmas.{cut-totals, few-counted, refused-cut}
use Rattle.tr_seats.proofs.SlotLemmas.{books-cut}
use Rattle.tr_seats.proofs.slot.Slot.cut.Goals as goal
use Rattle.tr_seats.specs.Accounts.{IsKeptAccount}
use Rattle.tr_seats.specs.Books.{AreBooksOf, IsPlanned, books_at}
use Rattle.tr_seats.specs.Sums.{totals_in}
use Rattle.tr_seats.specs.declared.totals.Totals.{Totals}
use Rattle.tr_stream.specs.State.{StreamState}
use Rattle.tr_stream.specs.StateSteps.{state_after_cut, state_cut_answer}

pub invariant_of-self : goal.invariant_of-self
invariant_of-self g c =
    let old = c.self.inside in
    let same : c.cut.new.self ≡ old.stream =
    refused-cut c.args.moment old.stream c.cut.new.self c.in_err-done.field-0.0 c.in_err-done.ensures.value c.in_err-done.ensures.no_memory in
    subst (λ (t : StreamState). (old.number < length g.N.Names.plan.books)
    × AreBooksOf (books_at g.N.Names.plan.books old.number) t old.consumed.made old.offered old.discarded old.overwritten
    old.overwritten_packets old.consumed old.cuts old.cleared × IsPlanned g.N.Names.plan old.number t.config
    × IsKeptAccount (books_at g.N.Names.plan.books old.number).journal t old.consumed.made old.account) (sym same) c.self.invariant

pub raise-requires-clause-room : goal.raise-requires-clause-room
raise-requires-clause-room g c =
    let old = c.self.inside in
    let done = c.in_ok-done.done in
    let after : c.cut.new.self ≡ state_after_cut c.args.moment old.stream = search rules in
    let answer : Ok done ≡ state_cut_answer c.args.moment old.stream = search rules in
    let few = (few-counted c.cut.new.self c.shows_kept-2.ensures.kept.sound).consumed in
    let more : (totals_in c.cut.new.self).consumed ≡ (totals_in old.stream).consumed + done.records =
    ap (λ (t : Totals). t.consumed) (ap totals_in after ∙ cut-totals c.args.moment old.stream done answer) in
    let total : old.consumed.total ≡ (totals_in old.stream).consumed = ap (λ (l : LedgerState). l.total) c.self.invariant.1.consumed_is in
    omega (arith, few, more, total)

pub invariant_of-self-2 : goal.invariant_of-self-2
invariant_of-self-2 g c =
    let old = c.self.inside in
    let done = c.in_ok-done.done in
    let after : c.cut.new.self ≡ state_after_cut c.args.moment old.stream = search rules in
    let answer : Ok done ≡ state_cut_answer c.args.moment old.stream = search rules in
    let planned = subst (IsPlanned g.N.Names.plan old.number) (sym c.in_ok-done.ensures.config) c.self.invariant.2 in (
      c.self.invariant.0,
      books-cut (books_at g.N.Names.plan.books old.number) old.stream c.cut.new.self old.consumed.made old.offered
          old.discarded old.overwritten old.overwritten_packets old.consumed old.cuts old.cleared c.self.invariant.1
          c.raise.new.self c.raise_by_one.new.self done.records
          (ap totals_in after ∙ cut-totals c.args.moment old.stream done answer) c.raise.ensures.ledger
          c.raise_by_one.ensures.ledger,
      planned,
      subst (λ m. IsKeptAccount (books_at g.N.Names.plan.books old.number).journal c.cut.new.self m c.note_cut.new.self)
          (sym (ap (λ (l : LedgerState). l.made) c.raise.ensures.ledger))
          (kept-cut (books_at g.N.Names.plan.books old.number).journal old.stream old.consumed.made old.account c.note_cut.new.self c.self.invariant.3
          c.cut.new.self c.args.desk.now.who c.args.moment (Ok done) c.requires.desk.1 answer after c.note_cut.ensures.account),
    )

pub returns-in_err-done-clause-consumed : goal.returns-in_err-done-clause-consumed
returns-in_err-done-clause-consumed g c = grind (arith, common_steps)
