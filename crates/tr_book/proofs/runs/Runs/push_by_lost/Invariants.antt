use Rattle.std.proofs.Common.{◌≡◌, ◌++◌}
use Rattle.tr_book.specs.Runs.{GapsShow, packet_runs}
use Rattle.tr_book.proofs.runs.Runs.push_by_lost.Given as goal

-- with the packets that are left, all are done, and their gaps show
abbrev pub invariant-loop-packet : goal.invariant-loop-packet
invariant-loop-packet g l =
    (l.self ++ packet_runs l.packet-iterator ≡ l.fn.self ++ packet_runs l.fn.packets) × GapsShow l.lost l.packet-iterator
