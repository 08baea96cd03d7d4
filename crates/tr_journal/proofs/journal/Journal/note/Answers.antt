use Rattle.std.proofs.Common.{◌∙◌, ap, refl}
use Rattle.atomic_table.specs.Table.{keeps}
use Rattle.tr_journal.specs.Journals.{log_in}
use Rattle.tr_journal.specs.Views.{noted}
use Rattle.tr_journal.proofs.Steps.{notes, sat}
use Rattle.tr_journal.proofs.journal.Journal.note.Goals as goal

pub load-requires : goal.load-requires
load-requires g c =
    let i = c.self.invariant in
    let views = c.seat.inside.badge.views in
    let log = log_in c.self.inside.book.me.0 in
    let both = sat c.self.inside.book.me c.sit.new.book.me _ _ c.replace-badge.result.views views log
    c.sit.ensures.joined i.2 (ap (λ b. b.views) c.replace-badge.ensures.value) c.seat.invariant in (
      c.sit.ensures.table ∙ i.0,
      i.1,
      (λ s h homes at small.
          let done = notes _ _ _ _ _ s.views h at both g.K.Noted.done in
          (noted g.K.Noted.done c.sit.new.book.me.0, keeps, tt, done.0, (refl, done.1))),
    )
