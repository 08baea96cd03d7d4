use Rattle.std.proofs.Common.{List, length, subst, sym}
use Rattle.tr_accounts.specs.declared.step.StreamStep.{StreamStep}
use Rattle.tr_journal.specs.Journals as journal
use Rattle.tr_ledger.specs.Ledgers.{SeatState}
use Rattle.tr_seats.proofs.NameLemmas.{named-none}
use Rattle.tr_seats.proofs.OperatorLemmas.{new-desk-none}
use Rattle.tr_seats.proofs.naming.Named.none.Goals as goal
use Rattle.tr_seats.specs.Operators.{AreNewDeskSeats}
use Rattle.tr_seats.specs.Plans.{AreNamed}
use Rattle.tr_seats.specs.Slots.{ProducerState, SlotState}

pub invariant_of-result : goal.invariant_of-result
invariant_of-result g c =
    let plan = g.N.Names.plan in (
      subst (λ (x : List SlotState × List ProducerState × List SeatState × List SeatState × List SeatState). AreNamed plan x.0 x.1 x.2 x.3 x.4)
          (λ j. (
            sym c.new.ensures.items j,
            sym c.new-2.ensures.items j,
            sym c.new-3.ensures.items j,
            sym c.new-4.ensures.items j,
            sym c.new-5.ensures.items j,
          ))
          (named-none plan),
      subst (λ (x : List SlotState × List (journal.SeatState StreamStep)). AreNewDeskSeats (length x.0) plan.books x.1)
          (λ j. (sym c.new.ensures.items j, sym c.new-6.ensures.items j)) (new-desk-none plan.books),
    )
