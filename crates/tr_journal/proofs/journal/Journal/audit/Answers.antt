use Rattle.std.proofs.Common.{◌∙◌, ap, refl, rules}
use Rattle.atomic_table.specs.Table.{keeps}
use Rattle.tr_journal.specs.Journals.{log_in}
use Rattle.tr_journal.proofs.Steps.{learns, sat, shows}
use Rattle.tr_journal.proofs.journal.Journal.audit.Goals as goal

pub load-requires : goal.load-requires
load-requires g c =
    let i = c.self.invariant in (
      c.sit.ensures.table ∙ i.0,
      i.1,
      (λ s h homes at small.
          let known = learns _ _ s.views h at in
          (c.sit.new.book.me.0, keeps, tt, known.0, (refl, known.1))),
    )

pub returns-clause-own : goal.returns-clause-own
returns-clause-own g c =
    let i = c.self.invariant in
    let views = c.seat.inside.badge.views in
    let log = log_in c.self.inside.book.me.0 in
    let both = sat c.self.inside.book.me c.sit.new.book.me _ _ c.replace-badge.result.views views log
    c.sit.ensures.joined i.2 (ap (λ b. b.views) c.replace-badge.ensures.value) c.seat.invariant in
    let own = shows c.sit.new.book.me.0 log _ both c.load.ensures.2.1 in
    search rules
