-- How far a clock may be from UTC.
use Rattle.std.specs.Prelude.{ℤ, pos, neg_ℤ, ◌≤ℤ◌}
use Rattle.tr_terms.specs.declared.limits.TheConstants.{MOST_MINUTES}

-- the minutes that a clock may be ahead of UTC, or behind it
abbrev pub IsOffset : ℤ → Type 0
IsOffset minutes = (neg_ℤ (pos MOST_MINUTES) ≤ℤ minutes) × (minutes ≤ℤ pos MOST_MINUTES)
