use Rattle.std.proofs.Common.{◌≡◌, ◌++◌}
use Rattle.tr_book.specs.Runs.{packet_runs}
use Rattle.tr_book.proofs.runs.Runs.push_packets.Given as goal

-- with the packets that are left, all are done
abbrev pub invariant-loop-packet : goal.invariant-loop-packet
invariant-loop-packet g l = l.self ++ packet_runs l.packet-iterator ≡ l.fn.self ++ packet_runs l.fn.packets
