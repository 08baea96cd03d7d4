-- What is reported, one text after another.
use Rattle.std.specs.Prelude.{ℕ, ◌+◌, List, ◌++◌, length}
use Rattle.std.specs.List.{flat_map}
use Rattle.tr_chunk.specs.Audit.{capped_count}

-- a text, and the state once it is reported, or the number of faults
pub record Told (S : Type 0) : Type 0 where
  pub text : List ℕ
  pub state : S

abbrev pub told : {S : Type 0} → List ℕ → S → Told S
told text state = record { text = text; state = state }

-- a text, and then what is reported after it
abbrev pub and_then : {S : Type 0} → List ℕ → Told S → Told S
and_then text more = told (text ++ more.text) more.state

-- lines end to end
abbrev pub text_of_lines : List (List ℕ) → List ℕ
text_of_lines = flat_map (λ (line : List ℕ). line)

-- faults so far, and then more
abbrev pub and_faults : ℕ → List (List ℕ) → ℕ
and_faults n lines = capped_count (n + length lines)

-- lines, each of a fault, after this number of faults
abbrev pub faults_told : ℕ → List (List ℕ) → Told ℕ
faults_told n lines = told (text_of_lines lines) (and_faults n lines)
