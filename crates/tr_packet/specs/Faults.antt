-- Why bytes don't start with a packet, as documents name it.
use Rattle.std.specs.Prelude.{ℕ, List, codes}
use Rattle.tr_packet.specs.declared.faults.PacketFault.{PacketFault}
use Rattle.tr_packet.specs.declared.faults.PacketFault.TheVariants.{Short, BadMagic, BadStreamId, BadSize, BadRecord, SerialOrder, MomentOrder}

abbrev pub packet_fault_code : PacketFault → List ℕ
packet_fault_code Short = codes "P1"
packet_fault_code BadMagic = codes "P2"
packet_fault_code BadStreamId = codes "P3"
packet_fault_code BadSize = codes "P4"
packet_fault_code BadRecord = codes "P5"
packet_fault_code SerialOrder = codes "P6"
packet_fault_code MomentOrder = codes "P7"

abbrev pub packet_fault_name : PacketFault → List ℕ
packet_fault_name Short = codes "Short"
packet_fault_name BadMagic = codes "BadMagic"
packet_fault_name BadStreamId = codes "BadStreamId"
packet_fault_name BadSize = codes "BadSize"
packet_fault_name BadRecord = codes "BadRecord"
packet_fault_name SerialOrder = codes "SerialOrder"
packet_fault_name MomentOrder = codes "MomentOrder"
