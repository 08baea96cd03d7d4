use Rattle.std.proofs.Common.{◌≡◌}
use Rattle.tr_book.specs.Parts.{seq_among}
use Rattle.tr_book.proofs.part.seq_among.Given as goal

-- the packets that were looked at don't have it
abbrev pub invariant-loop-packet : goal.invariant-loop-packet
invariant-loop-packet g l = seq_among l.serial l.packet-iterator ≡ seq_among l.serial l.fn.packets
