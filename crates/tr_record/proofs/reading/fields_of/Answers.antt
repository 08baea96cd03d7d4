use Rattle.std.proofs.Common.{refl, arith}
use Rattle.tr_record.specs.Reading.{entry_at}
use Rattle.tr_record.proofs.ReadingLemmas.{short_reads_none}
use Rattle.tr_record.proofs.reading.fields_of.Goals as goal

pub returns-then-bytes-lt-RECORD_HEADER : goal.returns-then-bytes-lt-RECORD_HEADER
returns-then-bytes-lt-RECORD_HEADER c =
    short_reads_none c.args.bytes.now (entry_at c.args.bytes.now) (λ i. omega (arith, c.type_inv.bytes i)) c.if-bytes-lt-RECORD_HEADER.true refl
