use Rattle.std.proofs.Common.{◌≡◌, ap, sym, ◌∙◌}
use Rattle.tr_ledger.specs.Ledgers.{view_of}
use Rattle.tr_ledger.proofs.Steps.{joins}
use Rattle.tr_ledger.proofs.seating.sit.Goals as goal

pub join_seat-requires : goal.join_seat-requires
join_seat-requires c =
    let token = c.into_seat.ensures in
    let no_book : c.into_seat.result.me.0.books ≡ 0 =
    ap (λ views. (view_of views).books) (sym token.2) ∙ c.requires.seat.1 in (
      c.requires.table.0,
      token.0 ∙ c.requires.same,
      token.3,
      c.requires.table.1,
      (λ s h at apart there. joins _ _ s.views h at _ _ no_book apart there),
    )
