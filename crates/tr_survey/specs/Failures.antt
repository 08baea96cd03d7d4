-- How often reading and writing failed, and which faults say so.
use Rattle.std.specs.Prelude.{ℕ, Result, Ok, Err}
use Rattle.tr_record.specs.Bytes.{once_more}
use Rattle.tr_survey.specs.declared.faults.SurveyFault.{SurveyFault}
use Rattle.tr_survey.specs.declared.faults.SurveyFault.TheVariants.{TooMuch, Write, NoMemory}

-- the failures of reading after a survey, or a part of it, that ended like this
abbrev pub reads_after : {R : Type 0} → Result R SurveyFault → ℕ → ℕ
reads_after (Ok done) count = count
reads_after (Err TooMuch) count = once_more count
reads_after (Err Write) count = count
reads_after (Err NoMemory) count = count

-- the failures of writing after it
abbrev pub writes_after : {R : Type 0} → Result R SurveyFault → ℕ → ℕ
writes_after (Ok done) count = count
writes_after (Err TooMuch) count = count
writes_after (Err Write) count = once_more count
writes_after (Err NoMemory) count = count
