use Rattle.tr_packet.proofs.TextLemmas.{head_written}
use Rattle.tr_packet.proofs.encoding.put_head.Goals as goal

pub returns-clause-items : goal.returns-clause-items
returns-clause-items g c =
    head_written c.args.head.now c.args.bits c.args.out.now.items c.put_bytes.new.out.items c.put_bytes-2.new.out.items
    c.put_bytes-3.new.out.items c.as_bytes.result.now c.numbers_of.result c.as_bytes.ensures c.numbers_of.ensures
    c.put_bytes.ensures.items c.put_bytes-2.ensures.items c.put_bytes-3.ensures.items
