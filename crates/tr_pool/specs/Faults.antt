-- What a log and its stream don't agree on, by its code and its name.
use Rattle.std.specs.Prelude.{ℕ, List, codes}
use Rattle.tr_pool.specs.declared.report.Mismatch.{Mismatch}
use Rattle.tr_pool.specs.declared.report.Mismatch.TheVariants.{WrongRecord, LogLength}

abbrev pub mismatch_code : Mismatch → List ℕ
mismatch_code (WrongRecord stream serial) = codes "M1"
mismatch_code (LogLength stream) = codes "M2"

abbrev pub mismatch_name : Mismatch → List ℕ
mismatch_name (WrongRecord stream serial) = codes "WrongRecord"
mismatch_name (LogLength stream) = codes "LogLength"
