use Rattle.tr_survey.proofs.IdentifierLemmas.{short_file}
use Rattle.tr_survey.proofs.identifiers.uuid_read.Goals as goal

pub returns-in-Err-Unreadable-clause-uuid : goal.returns-in-Err-Unreadable-clause-uuid
returns-in-Err-Unreadable-clause-uuid g c file known =
    short_file file (c.in-Err-Unreadable.ensures.broken c.in-Err-Unreadable.field-0-is file known).0
