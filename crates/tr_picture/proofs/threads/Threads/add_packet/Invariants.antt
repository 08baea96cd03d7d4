use Rattle.std.proofs.Common.{◌≡◌}
use Rattle.tr_picture.specs.Threads.{threads_after}
use Rattle.tr_picture.proofs.threads.Threads.add_packet.Given as goal

-- with the records that are left, the threads are those of all
abbrev pub invariant-loop-record : goal.invariant-loop-record
invariant-loop-record l = threads_after l.self l.record-iterator ≡ threads_after l.fn.self l.fn.packet.records
