use Rattle.std.proofs.Common.{◌∙◌, ap, refl}
use Rattle.atomic_table.specs.Table.{keeps}
use Rattle.tr_ledger.specs.Ledgers.{view_of}
use Rattle.tr_ledger.proofs.Steps.{learns, has_book}
use Rattle.tr_ledger.proofs.ledger.Ledger.join.Goals as goal

pub load-requires : goal.load-requires
load-requires g c =
    let i = c.self.invariant in
    let first_book = has_book _ _ _ _ (view_of c.replace-badge.result.views) i.2 c.sit.ensures.joined in
    let is_book = ap (λ me. me.0.books) c.sit-2.ensures.joined ∙ first_book in (
      c.sit-2.ensures.table ∙ c.sit.ensures.table ∙ i.0,
      i.1,
      (λ s h homes at small.
          let known = learns _ _ s.views h at is_book in
          (c.sit-2.new.book.me.0, keeps, tt, known.0, (refl, known.1))),
    )
