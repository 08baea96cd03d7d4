use Rattle.std.proofs.Common.{ap}
use Rattle.tr_ledger.proofs.Steps.{makes}
use Rattle.tr_ledger.proofs.ledger.Ledger.split.Goals as goal

pub split_seat-requires : goal.split_seat-requires
split_seat-requires g c =
    let i = c.self.invariant in
    (i.0, i.1, λ s h at. makes _ _ s.views h at (ap (λ me. me.0.books) i.2))
