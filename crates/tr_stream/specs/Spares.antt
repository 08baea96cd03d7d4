-- Pages in reserve.
use Rattle.std.specs.Prelude.{ℕ}

-- the size of each, and how many there are
pub record SparesState : Type 0 where
  pub size : ℕ
  pub count : ℕ

abbrev pub spares_state : ℕ → ℕ → SparesState
spares_state size count = record { size = size; count = count }
