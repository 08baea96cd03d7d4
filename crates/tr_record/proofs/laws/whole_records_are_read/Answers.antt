use Rattle.tr_record.proofs.WholeLemmas.{at_records, records_at}
use Rattle.tr_record.proofs.laws.whole_records_are_read.Goals as goal

pub returns-clause-found : goal.returns-clause-found
returns-clause-found c = at_records

pub returns-clause-only : goal.returns-clause-only
returns-clause-only c = records_at
