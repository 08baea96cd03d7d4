use Rattle.std.proofs.Common.{◌≡◌, None, ap, sym, ◌∙◌}
use Rattle.tr_journal.specs.Journals.{view_of}
use Rattle.tr_journal.proofs.Steps.{joins}
use Rattle.tr_journal.proofs.seating.sit.Goals as goal

pub join_seat-requires : goal.join_seat-requires
join_seat-requires g c =
    let token = c.into_seat.ensures in
    let seat : c.into_seat.result.me.0.log ≡ None = ap (λ views. (view_of views).log) (sym token.2) ∙ c.requires.seat.1 in (
      c.requires.table.0,
      token.0 ∙ c.requires.same,
      token.3,
      c.requires.table.1,
      (λ s h at away there. joins _ _ s.views h at _ _ seat away there),
    )
