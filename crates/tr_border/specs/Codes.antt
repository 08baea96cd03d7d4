-- The numbers that calls answer.
use Rattle.std.specs.Prelude.{ℕ, ◌+◌, ◌-◌, ◌*◌, ◌==◌, List, [], ◌∷◌, codes, Result, Ok, Err, Option, Some, None, if◌then◌else◌}
use Rattle.std.specs.List.{list_any}
use Rattle.std.specs.Str.{bytes_eq}

-- the hundred of a code's letter: S, O, T, C, X, Y, D, A, G, V, K, Z
abbrev pub hundred_of : ℕ → ℕ
hundred_of letter =
    if letter == 83 then 100 else (if letter == 79 then 200 else (if letter == 84 then 300 else (if letter == 67 then 400
    else (if letter == 88 then 500 else (if letter == 89 then 600 else (if letter == 68 then 700 else (if letter == 65 then 800
    else (if letter == 71 then 900 else (if letter == 86 then 1000
    else (if letter == 75 then 1100 else (if letter == 90 then 1200 else 0)))))))))))

-- the number that digits write, after those before
abbrev pub written_after : ℕ → List ℕ → ℕ
written_after n [] = n
written_after n (digit ∷ digits) = written_after (10 * n + (digit - 48)) digits

-- the number that a code writes: its letter's hundred and its digits, as 115 for S15
abbrev pub number_of_code : List ℕ → ℕ
number_of_code [] = 0
number_of_code (letter ∷ digits) = hundred_of letter + written_after 0 digits

-- the codes of a failed allocation: a session's, a take's, a cut's, a clear's, a release's, a forget's and an audit's
abbrev pub memory_codes : List (List ℕ)
memory_codes = codes "S16" ∷ codes "T3" ∷ codes "C2" ∷ codes "X2" ∷ codes "Y3" ∷ codes "Z3" ∷ codes "A5" ∷ []

-- the number of a fault's code, and 1 for all failed allocations
abbrev pub code_number : List ℕ → ℕ
code_number code = if list_any (bytes_eq code) memory_codes then 1 else number_of_code code

-- what a call answers: 0 if it was done
abbrev pub code_of : {A E : Type 0} → (E → List ℕ) → Result A E → ℕ
code_of code (Ok x) = 0
code_of code (Err fault) = code_number (code fault)

-- what a call's result is then, which stays as it was after a refusal
abbrev pub given : {A B E : Type 0} → (A → B) → Result A E → B → B
given out (Ok x) before = out x
given out (Err fault) before = before
