-- When a load's workers may end.
use Rattle.std.specs.Prelude.{◌≡◌, ℕ, ◌+◌, ◌-◌, ◌/◌, ◌%◌, ◌<◌, Bool, false}

-- how many streams a worker has, if it has any: that of its own number, and those above it by multiples of the number of
-- workers
abbrev pub round_of : (streams workers worker : ℕ) → ℕ
round_of streams workers worker = (streams - worker - 1) / workers + 1

-- a worker ends after whole rounds alone, and not before its first
abbrev pub IsLet : (streams workers worker turn : ℕ) → Bool → Type 0
IsLet streams workers worker turn answer =
    answer ≡ false → (0 < turn) × (turn % round_of streams workers worker ≡ 0)
