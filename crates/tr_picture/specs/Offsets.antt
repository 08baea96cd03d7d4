-- How far the clock of a session is from UTC, by its archives' names.
use Rattle.std.specs.Prelude.{ℕ, ℤ, Bool, true, false, ◌+◌, ◌*◌, ◌-◌, ◌==◌, nat_le, nat_lt, pos, neg_ℤ, List, [], ◌∷◌, length, slice_index, if◌then◌else◌}
use Rattle.tr_survey.specs.Order.{Numbered}
use Rattle.tr_terms.specs.declared.limits.TheConstants.{MOST_MINUTES}

abbrev pub digit_at : List ℕ → ℕ → ℕ
digit_at name i = slice_index name i - 48

-- the hours and minutes that end the first stamp, as minutes
abbrev pub minutes_in : List ℕ → ℕ
minutes_in name = 600 * digit_at name 16 + 60 * digit_at name 17 + 10 * digit_at name 18 + digit_at name 19

-- so many minutes ahead of UTC, or behind it
abbrev pub ahead : Bool → ℕ → ℤ
ahead true minutes = neg_ℤ (pos minutes)
ahead false minutes = pos minutes

-- by the sign before them, a minus or a plus; UTC if they are more than an offset can be
abbrev pub signed_in : List ℕ → ℤ
signed_in name = if nat_le (minutes_in name) MOST_MINUTES then ahead (slice_index name 15 == 45) (minutes_in name) else pos 0

-- that of an archive's name
abbrev pub offset_in : List ℕ → ℤ
offset_in name = if nat_lt (length name) 20 then pos 0 else signed_in name

-- that of a session: its first archive's; UTC without one
abbrev pub offset_of : List Numbered → ℤ
offset_of [] = pos 0
offset_of (a ∷ archives) = offset_in a.name
