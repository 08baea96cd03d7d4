use Rattle.std.proofs.Common.{◌<◌, ◌∙◌, ap, refl, arith}
use Rattle.atomic_table.specs.Table.{keeps}
use Rattle.tr_ledger.specs.Ledgers.{view_of}
use Rattle.tr_ledger.specs.Views.{raised}
use Rattle.tr_ledger.proofs.Steps.{raises, has_book, has_mark}
use Rattle.tr_ledger.proofs.ledger.Ledger.raise_by.Goals as goal

pub load-requires : goal.load-requires
load-requires g c =
    let i = c.self.invariant in
    let seat = view_of c.replace-badge.result.views in
    let is_book = has_book _ _ _ _ seat i.2 c.sit.ensures.joined in
    let mark = has_mark _ _ _ _ seat i.2 c.sit.ensures.joined in
    let same_seat = ap (λ b. (view_of b.views).mark) c.replace-badge.ensures.value in
    let some_mark : 0 < c.sit.new.book.me.0.mark = omega (arith, mark, same_seat, c.seat.invariant.1) in (
      c.sit.ensures.table ∙ i.0,
      i.1,
      (λ s h homes at small.
          let risen = raises _ _ s.views h at is_book some_mark g.K.Amount.amount in
          (raised g.K.Amount.amount c.sit.new.book.me.0, keeps, tt, risen.0, (refl, risen.1))),
    )
