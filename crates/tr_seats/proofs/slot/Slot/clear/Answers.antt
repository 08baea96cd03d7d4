use Rattle.std.proofs.Common.{rules, ◌≡◌, ◌∙◌, ◌+◌, ◌<◌, Ok, ap, arith, length, subst, sym}
use Rattle.tr_ledger.specs.Ledgers.{LedgerState}
use Rattle.tr_seats.proofs.AccountLemmas.{kept-clear}
use Rattle.tr_seats.proofs.CountLemmas.{clear-totals, few-counted, refused-clear}
use Rattle.tr_seats.proofs.SlotLemmas.{books-cleared}
use Rattle.tr_seats.proofs.slot.Slot.clear.Goals as goal
use Rattle.tr_seats.specs.Accounts.{IsKeptAccount}
use Rattle.tr_seats.specs.Books.{AreBooksOf, IsPlanned, books_at}
use Rattle.tr_seats.specs.Sums.{totals_in}
use Rattle.tr_seats.specs.declared.totals.Totals.{Totals}
use Rattle.tr_stream.specs.State.{StreamState}
use Rattle.tr_stream.specs.StateSteps.{state_after_clear, state_clear_answer}

pub invariant_of-self : goal.invariant_of-self
invariant_of-self g c =
    let old = c.self.inside in
    let same : c.clear_out.new.self ≡ old.stream =
    refused-clear old.stream c.clear_out.new.self c.in_err-done.field-0.0 c.in_err-done.ensures.value c.in_err-done.ensures.no_memory in
    subst (λ (t : StreamState). (old.number < length g.N.Names.plan.books)
    × AreBooksOf (books_at g.N.Names.plan.books old.number) t old.consumed.made old.offered old.discarded old.overwritten
    old.overwritten_packets old.consumed old.cuts old.cleared × IsPlanned g.N.Names.plan old.number t.config
    × IsKeptAccount (books_at g.N.Names.plan.books old.number).journal t old.consumed.made old.account) (sym same) c.self.invariant

pub raise-requires-clause-room : goal.raise-requires-clause-room
raise-requires-clause-room g c =
    let old = c.self.inside in
    let done = c.in_ok-done.done in
    let after : c.clear_out.new.self ≡ state_after_clear old.stream = search rules in
    let answer : Ok done ≡ state_clear_answer old.stream = search rules in
    let few = (few-counted c.clear_out.new.self c.shows_kept-2.ensures.kept.sound).cleared in
    let more : (totals_in c.clear_out.new.self).cleared ≡ (totals_in old.stream).cleared + done.records =
    ap (λ (t : Totals). t.cleared) (ap totals_in after ∙ clear-totals old.stream done answer) in
    let total : old.cleared.total ≡ (totals_in old.stream).cleared = ap (λ (l : LedgerState). l.total) c.self.invariant.1.cleared_is in
    omega (arith, few, more, total)

pub invariant_of-self-2 : goal.invariant_of-self-2
invariant_of-self-2 g c =
    let old = c.self.inside in
    let done = c.in_ok-done.done in
    let after : c.clear_out.new.self ≡ state_after_clear old.stream = search rules in
    let answer : Ok done ≡ state_clear_answer old.stream = search rules in
    let planned = subst (IsPlanned g.N.Names.plan old.number) (sym c.in_ok-done.ensures.config) c.self.invariant.2 in (
      c.self.invariant.0,
      books-cleared (books_at g.N.Names.plan.books old.number) old.stream c.clear_out.new.self old.consumed.made old.offered
          old.discarded old.overwritten old.overwritten_packets old.consumed old.cuts old.cleared c.self.invariant.1
          c.raise.new.self done.records (ap totals_in after ∙ clear-totals old.stream done answer) c.raise.ensures.ledger,
      planned,
      kept-clear (books_at g.N.Names.plan.books old.number).journal old.stream old.consumed.made old.account c.note_clear.new.self c.self.invariant.3
          c.clear_out.new.self c.args.desk.now.who (Ok done) c.requires.desk.1 answer after c.note_clear.ensures.account,
    )
