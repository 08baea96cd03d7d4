use Rattle.std.proofs.Common.{rules, ◌≡◌, ◌∷◌, [], List, sym, subst}
use Rattle.tr_record.specs.Records.{Entry}
use Rattle.tr_packet.specs.Packets.{Contents}
use Rattle.tr_pool.specs.Judging.{Judges}
use Rattle.tr_pool.specs.Logs.{packet_records}
use Rattle.tr_pool.proofs.JudgeLemmas.{judges_then, judges_none}
use Rattle.tr_pool.proofs.judging.judge_packets.Goals as goal

pub packets-preserved : goal.packets-preserved
packets-preserved c = λ last rest.
    let steps : c.packets.packet-iterator ≡ c.in-Some.packet ∷ c.next.new.self = search rules in
    let one = subst (λ (es : List Entry). Judges c.args.items.now es c.packets.least c.judge_records-least.result) c.records.ensures.value c.judge_records-least.ensures in
    c.packets.invariant last
    (subst (λ (ps : List Contents). Judges c.args.items.now (packet_records ps) c.packets.least last) (sym steps)
    (judges_then c.args.items.now c.in-Some.packet.records (packet_records c.next.new.self) c.packets.least c.judge_records-least.result last one rest))

pub returns : goal.returns
returns c =
    let none : c.packets.packet-iterator ≡ [] = search rules in
    c.packets.invariant c.packets.least
    (subst (λ (ps : List Contents). Judges c.args.items.now (packet_records ps) c.packets.least c.packets.least) (sym none) (judges_none c.args.items.now c.packets.least))
