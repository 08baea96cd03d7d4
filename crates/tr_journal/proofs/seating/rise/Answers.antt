use Rattle.tr_journal.proofs.Steps.{parts}
use Rattle.tr_journal.proofs.seating.rise.Goals as goal

pub split_seat-requires : goal.split_seat-requires
split_seat-requires g c = (c.requires.table.0, c.requires.table.1, λ s h at. parts _ _ s.views h at)
