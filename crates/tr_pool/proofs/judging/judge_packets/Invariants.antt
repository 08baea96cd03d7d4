use Rattle.std.proofs.Common.{ℕ, Option}
use Rattle.tr_pool.specs.Judging.{Judges}
use Rattle.tr_pool.specs.Logs.{packet_records}
use Rattle.tr_pool.proofs.judging.judge_packets.Given as goal

-- what is judged of the packets that are left is judged of all
abbrev pub invariant-packets : goal.invariant-packets
invariant-packets l = (last : Option ℕ) → Judges l.items (packet_records l.packet-iterator) l.least last
    → Judges l.items (packet_records l.fn.packets) l.fn.least last
