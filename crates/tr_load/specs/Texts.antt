-- What is said of a load.
use Rattle.std.specs.Fmt.{decimal}
use Rattle.std.specs.Prelude.{ℕ, List, [], ◌∷◌, ◌++◌, codes, Option, Some, None, Result, Ok, Err}
use Rattle.tr_pool.specs.declared.report.Mismatch.{Mismatch}
use Rattle.tr_pool.specs.declared.report.Mismatch.TheVariants.{WrongRecord, LogLength}
use Rattle.tr_pool.specs.declared.report.Report.{Report}

-- a line of words and a number
abbrev pub line : List ℕ → ℕ → List ℕ
line words number = words ++ (32 ∷ (decimal number ++ 10 ∷ []))

-- how many offered records a watcher learned of, if there was one, and that the logs agree
abbrev pub report_end : Option ℕ → List ℕ
report_end (Some offered) = line (codes "watched") offered ++ (codes "reconciled" ++ 10 ∷ [])
report_end None = codes "reconciled" ++ 10 ∷ []

-- how many threads there were, where the records are, and what a watcher learned
abbrev pub report_text : ℕ → Report → Option ℕ → List ℕ
report_text threads report watched =
    line (codes "threads") threads ++ (line (codes "offered") report.offered
    ++ (line (codes "discarded") report.discarded ++ (line (codes "overwritten") report.overwritten
    ++ (line (codes "in ring") report.in_ring ++ (line (codes "in chunks") report.in_chunks
    ++ report_end watched)))))

-- how many records were offered so far
abbrev pub progress_text : ℕ → List ℕ
progress_text offered = codes "tracerd: " ++ (decimal offered ++ (codes " records offered" ++ 10 ∷ []))

-- the stream that is wrong, and the serial of its record or that its log is
abbrev pub mismatch_text : Mismatch → List ℕ
mismatch_text (WrongRecord stream serial) =
    codes "mismatch stream " ++ (decimal stream ++ (codes " serial " ++ (decimal serial ++ 10 ∷ [])))
mismatch_text (LogLength stream) = codes "mismatch stream " ++ (decimal stream ++ (codes " log" ++ 10 ∷ []))

abbrev pub outcome_text : ℕ → Result Report Mismatch → Option ℕ → List ℕ
outcome_text threads (Ok report) watched = report_text threads report watched
outcome_text threads (Err mismatch) watched = mismatch_text mismatch
