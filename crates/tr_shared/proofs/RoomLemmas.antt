-- Room for as many locks as there are slots.
use Rattle.std.proofs.Common.{◌≡◌, ◌≤◌, ℕ, arith, length}
use Rattle.std.specs.Prelude.{Vec, vec_capacity, vec_len}

pub room-for : {S L Z Y : Type 0} (slots : Vec S Z) (locks : Vec L Y) (asked n : ℕ) → asked ≡ vec_len slots → length slots.items ≡ n
    → asked ≤ vec_capacity locks → n ≤ vec_capacity locks
room-for slots locks asked n is many room = omega (arith, is, many, room)
