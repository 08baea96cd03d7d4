-- The name of an archive: when its chunk began and ended on the session's clock, and the chunk's number.
use Rattle.std.specs.Prelude.{ℕ, zero, suc, ◌+◌, ◌/◌, ◌%◌, nat_lt, if◌then◌else◌, ℤ, pos, negsuc, ◌+ℤ◌, ◌*ℤ◌, unsigned_abs, List, [], ◌∷◌, ◌++◌}
use Rattle.std.specs.Fmt.{decimal}
use Rattle.jiff.specs.Words.{days_in_month}

-- a day of the calendar
pub record Day : Type 0 where
  pub year : ℕ
  pub month : ℕ
  pub day : ℕ

-- no moment is before it, at any offset
abbrev pub first_day : Day
first_day = record { year = 1969; month = 12; day = 31 }

-- the next day is of the same month, or else the first of the next month, or else 1 January
abbrev pub day_after : Day → Day
day_after d =
    if nat_lt d.day (days_in_month (pos d.year) d.month) then record d { day = d.day + 1 }
    else if nat_lt d.month 12 then record { year = d.year; month = d.month + 1; day = 1 }
    else record { year = d.year + 1; month = 1; day = 1 }

-- the day this number of days after the first
unfoldable pub day_at : ℕ → Day
day_at zero = first_day
day_at (suc n) = day_after (day_at n)

-- the whole seconds from the first day's midnight to the moment, both on a clock this number of minutes ahead of UTC. The
-- moment's own seconds count from 1970, a day later. The result isn't negative, since offsets are shorter than a day
abbrev pub clock_seconds : ℕ → ℤ → ℕ
clock_seconds moment minutes = unsigned_abs (pos (moment / 1_000_000_000 + 86_400) +ℤ minutes *ℤ pos 60)

-- the two digits of a number below 100
abbrev pub two_digits : ℕ → List ℕ
two_digits n = (48 + n / 10) ∷ (48 + n % 10) ∷ []

-- four digits of the year, two each of month and day
abbrev pub date_text : Day → List ℕ
date_text d = two_digits (d.year / 100) ++ (two_digits (d.year % 100) ++ (two_digits d.month ++ two_digits d.day))

-- two digits each of hour, minute and second, from the seconds since midnight
abbrev pub time_text : ℕ → List ℕ
time_text s = two_digits (s / 3600) ++ (two_digits (s / 60 % 60) ++ two_digits (s % 60))

-- two digits each of hours and minutes
abbrev pub distance_text : ℕ → List ℕ
distance_text minutes = two_digits (minutes / 60) ++ two_digits (minutes % 60)

-- the sign of the offset and how far it is; no offset is +0000
abbrev pub offset_text : ℤ → List ℕ
offset_text (pos n) = 43 ∷ distance_text n
offset_text (negsuc n) = 45 ∷ distance_text (suc n)

-- date, T, time and offset
unfoldable pub stamp_text : ℕ → ℤ → List ℕ
stamp_text moment minutes =
    date_text (day_at (clock_seconds moment minutes / 86_400))
    ++ (84 ∷ (time_text (clock_seconds moment minutes % 86_400) ++ offset_text minutes))

-- begin, end and number, with - between them
unfoldable pub archive_name_text : ℕ → ℕ → ℤ → ℕ → List ℕ
archive_name_text begin end minutes id =
    stamp_text begin minutes ++ (45 ∷ (stamp_text end minutes ++ (45 ∷ decimal id)))
