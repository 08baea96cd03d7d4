use Rattle.std.proofs.Common.{arith}
use Rattle.tr_packet.proofs.AnswerLemmas.{answer_found, answer_only, answer_fault}
use Rattle.tr_packet.proofs.decoding.decode_packet.Goals as goal

pub returns-clause-found : goal.returns-clause-found
returns-clause-found c =
    answer_found c.args.bytes.now c.packet_in.result (λ i. omega (arith, c.type_inv.bytes i)) c.packet_in.ensures.sound
    c.packet_in.ensures.packet c.packet_in.ensures.size

pub returns-clause-only : goal.returns-clause-only
returns-clause-only c = answer_only c.args.bytes.now c.packet_in.result c.packet_in.ensures.packet c.packet_in.ensures.size c.packet_in.ensures.fault

pub returns-clause-fault : goal.returns-clause-fault
returns-clause-fault c = answer_fault c.args.bytes.now c.packet_in.result c.packet_in.ensures.sound c.packet_in.ensures.fault
