use Rattle.std.proofs.Common.{ap}
use Rattle.tr_journal.proofs.Steps.{makes}
use Rattle.tr_journal.proofs.journal.Journal.split.Goals as goal

pub split_seat-requires : goal.split_seat-requires
split_seat-requires g c =
    let i = c.self.invariant in
    (i.0, i.1, λ s h at. makes _ _ _ s.views h at (ap (λ me. me.0) i.2))
