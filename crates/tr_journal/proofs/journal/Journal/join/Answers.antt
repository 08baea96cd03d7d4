use Rattle.std.proofs.Common.{◌∙◌, refl}
use Rattle.atomic_table.specs.Table.{keeps}
use Rattle.tr_journal.proofs.Steps.{learns}
use Rattle.tr_journal.proofs.journal.Journal.join.Goals as goal

pub load-requires : goal.load-requires
load-requires g c =
    let i = c.self.invariant in (
      c.sit-2.ensures.table ∙ c.sit.ensures.table ∙ i.0,
      i.1,
      (λ s h homes at small.
          let known = learns _ _ s.views h at in
          (c.sit-2.new.book.me.0, keeps, tt, known.0, (refl, known.1))),
    )
