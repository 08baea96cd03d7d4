use Rattle.tr_record.proofs.WritingLemmas.{record_written}
use Rattle.tr_record.proofs.writing.put_rec.Goals as goal

pub returns-clause-items : goal.returns-clause-items
returns-clause-items g c =
    record_written c.args.r.now c.args.out.now.items c.put_bytes.new.out.items c.put_bytes-2.new.out.items c.header_of.result
    c.payload.result.now c.header_of.ensures c.put_bytes.ensures.items c.put_bytes-2.ensures.items c.payload.ensures.value
