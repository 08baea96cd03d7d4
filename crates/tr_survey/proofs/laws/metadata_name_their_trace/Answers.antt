use Rattle.tr_survey.proofs.DeclaringLemmas.{events_declared}
use Rattle.tr_survey.proofs.MetadataTextLemmas.{metadata_are_of_trace}
use Rattle.tr_survey.proofs.TypedMetadataLemmas.{typed_metadata_are_of_trace}
use Rattle.tr_survey.proofs.laws.metadata_name_their_trace.Goals as goal

pub returns-clause-plain : goal.returns-clause-plain
returns-clause-plain c = metadata_are_of_trace

pub returns-clause-typed : goal.returns-clause-typed
returns-clause-typed c = typed_metadata_are_of_trace

pub returns-clause-declared : goal.returns-clause-declared
returns-clause-declared c = events_declared
