use Rattle.std.proofs.Common.{◌≡◌, ◌+◌}
use Rattle.tr_book.specs.Parts.{records_of}
use Rattle.tr_book.proofs.part.records_in.Given as goal

-- with the packets that are left, all are counted
abbrev pub invariant-loop-packet : goal.invariant-loop-packet
invariant-loop-packet g l = l.count + records_of l.packet-iterator ≡ records_of l.fn.packets
