use Rattle.std.proofs.Common.{arith}
use Rattle.tr_record.proofs.ReadingLemmas.{raw_found, raw_only}
use Rattle.tr_record.proofs.reading.read_raw.Goals as goal

pub returns-clause-found : goal.returns-clause-found
returns-clause-found c = raw_found c.args.bytes.now c.fields_of.result (λ i. omega (arith, c.type_inv.bytes i)) c.fields_of.ensures

pub returns-clause-only : goal.returns-clause-only
returns-clause-only c = λ e rest b. raw_only c.args.bytes.now c.fields_of.result e rest b c.fields_of.ensures
