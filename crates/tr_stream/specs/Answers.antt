-- What a call answers, beside what it hands out.
use Rattle.std.specs.Prelude.{Result, Ok, Err}

abbrev pub answer_of : {X R F : Type 0} → Result (X × R) F → Result X F
answer_of (Ok r) = Ok r.0
answer_of (Err fault) = Err fault
