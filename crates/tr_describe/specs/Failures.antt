-- How often reading and writing failed, and which faults say so.
use Rattle.std.specs.Prelude.{ℕ, Result, Ok, Err}
use Rattle.tr_describe.specs.declared.faults.DescribeFault.{DescribeFault}
use Rattle.tr_describe.specs.declared.faults.DescribeFault.TheVariants.{TooMuch, Write, NoMemory}
use Rattle.tr_survey.specs.declared.faults.SurveyFault.{SurveyFault}
use Rattle.tr_survey.specs.declared.faults.SurveyFault.TheVariants as survey
use Rattle.tr_record.specs.Bytes.{once_more}
use Rattle.tr_record.specs.declared.bytes.Failed.{Failed}

-- the failures of reading after a call that ended like this
abbrev pub reads_after : {R : Type 0} → Result R DescribeFault → ℕ → ℕ
reads_after (Ok done) count = count
reads_after (Err TooMuch) count = once_more count
reads_after (Err Write) count = count
reads_after (Err NoMemory) count = count

-- the failures of writing after it
abbrev pub writes_after : {R : Type 0} → Result R DescribeFault → ℕ → ℕ
writes_after (Ok done) count = count
writes_after (Err TooMuch) count = count
writes_after (Err Write) count = once_more count
writes_after (Err NoMemory) count = count

-- the failures of writing after one text
abbrev pub puts_after : {R : Type 0} → Result R Failed → ℕ → ℕ
puts_after (Ok done) count = count
puts_after (Err failed) count = once_more count

-- a survey's fault, as one of describing
abbrev pub fault_of : SurveyFault → DescribeFault
fault_of survey.TooMuch = TooMuch
fault_of survey.Write = Write
fault_of survey.NoMemory = NoMemory
