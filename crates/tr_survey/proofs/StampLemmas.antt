-- The name of an archive is read as that of its number.
use Rattle.std.proofs.Common.{◌≡◌, ℕ, zero, suc, ◌+◌, ◌*◌, ◌/◌, ◌%◌, ◌^◌, ◌<◌, ◌≤◌, Bool, true, false, ◌&&◌, cond, refl, sym, ap, ◌∙◌, arith, List, [], ◌∷◌, ◌++◌, length, Some, nat_lt, nat_le, ℤ, pos, negsuc, append_assoc, length-append}
use Rattle.std.specs.Fmt.{decimal}
use Rattle.std.specs.List.{list_all, zip}
use Rattle.std.proofs.lemmas.Bool.{le-leb, ltb-false}
use Rattle.std.proofs.lemmas.Int.{ints}
use Rattle.std.proofs.lemmas.List.{drop_at, take_at}
use Rattle.tr_chunk.specs.ArchiveName.{Day, archive_name_text, clock_seconds, date_text, day_after, day_at, distance_text, offset_text, stamp_text, time_text}
use Rattle.tr_chunk.proofs.ArchiveNameLemmas.{day_at_is}
use Rattle.tr_events.specs.Numbers.{is_digit, number_of}
use Rattle.tr_survey.specs.Names.{archive_number, fits, form_of_stamps}
use Rattle.tr_events.proofs.NumberLemmas.{also, digit_of, number_is}
use Rattle.tr_terms.specs.Offsets.{IsOffset}
use Rattle.tr_terms.specs.declared.limits.TheConstants.{LAST_MOMENT}

-- ---- the calendar

-- a month has 28 to 31 days
last_of_month : (a b c : Bool) (day : ℕ) → nat_lt day (cond a (cond b 29 28) (cond c 30 31)) ≡ false → 28 ≤ day
last_of_month true true c day e = omega (arith, ltb-false _ _ e)
last_of_month true false c day e = omega (arith, ltb-false _ _ e)
last_of_month false b true day e = omega (arith, ltb-false _ _ e)
last_of_month false b false day e = omega (arith, ltb-false _ _ e)

day_of_month : (a b c : Bool) (day : ℕ) → day ≤ cond a (cond b 29 28) (cond c 30 31) → day ≤ 31
day_of_month true true c day h = omega arith
day_of_month true false c day h = omega arith
day_of_month false b true day h = omega arith
day_of_month false b false day h = omega arith

-- the number of a day as if each month had 28 days: one day later it is at most one more
abbrev short_number : Day → ℕ
short_number d = 336 * d.year + 28 * d.month + d.day

later_by_tests : (within early : Bool) (d : Day) → (within ≡ false → 28 ≤ d.day) → (early ≡ false → 12 ≤ d.month)
    → short_number (cond within (record d { day = d.day + 1 }) (cond early (record { year = d.year; month = d.month + 1; day = 1 })
    (record { year = d.year + 1; month = 1; day = 1 }))) ≤ short_number d + 1
later_by_tests true early d last december = omega arith
later_by_tests false true d last december = omega (arith, last refl)
later_by_tests false false d last december = omega (arith, last refl, december refl)

one_day_later : (d : Day) → short_number (day_after d) ≤ short_number d + 1
one_day_later d = later_by_tests _ _ d (last_of_month _ _ _ d.day) (ltb-false d.month 12)

-- 661951 is the first day's
days_later : (n : ℕ) → short_number (day_at n) ≤ 661951 + n
unfolding day_at
days_later zero = omega arith
days_later (suc n) = omega (arith, one_day_later (day_at n), days_later n)

-- four digits do for its year, and two each for its month and day
record IsShort (d : Day) : Type 0 where
  year : d.year < 10000
  month : d.month < 100
  day : d.day < 100

day_is_short : (n : ℕ) → n ≤ 200000 → IsShort (day_at n)
day_is_short n early =
    let h = day_at_is n in
    let day = day_of_month _ _ _ (day_at n).day h.day_in.1 in
    record {
      year = omega (arith, days_later n);
      month = omega (arith, h.month_in.1);
      day = omega (arith, day);
    }

-- no clock shows a later second
clock_below : (moment : ℕ) (minutes : ℤ) → moment ≤ LAST_MOMENT → IsOffset minutes → clock_seconds moment minutes ≤ 10000000000
clock_below moment (pos n) low within = omega (arith, ints, within.1)
clock_below moment (negsuc n) low within = omega (arith, ints, within.0)

-- ---- the form of stamps

abbrev fits_all : List ℕ → List ℕ → Bool
fits_all form text = list_all (λ (p : ℕ × ℕ). fits p.0 p.1) (zip form text)

-- these forms, in front of another
abbrev date_form : List ℕ → List ℕ
date_form form = 48 ∷ 48 ∷ 48 ∷ 48 ∷ 48 ∷ 48 ∷ 48 ∷ 48 ∷ form

abbrev time_form : List ℕ → List ℕ
time_form form = 48 ∷ 48 ∷ 48 ∷ 48 ∷ 48 ∷ 48 ∷ form

abbrev distance_form : List ℕ → List ℕ
distance_form form = 48 ∷ 48 ∷ 48 ∷ 48 ∷ form

abbrev offset_form : List ℕ → List ℕ
offset_form form = 43 ∷ distance_form form

abbrev stamp_form : List ℕ → List ℕ
stamp_form form = date_form (84 ∷ time_form (offset_form form))

-- two digits in front of what fits
two_fit : (n : ℕ) (rest : Bool) → n < 100 → rest ≡ true → (is_digit (48 + n / 10) && (is_digit (48 + n % 10) && rest)) ≡ true
two_fit n rest small fit = also _ _ (digit_of (n / 10) (omega arith)) (also _ rest (digit_of (n % 10) (omega arith)) fit)

date_fits : (d : Day) (form text : List ℕ) → IsShort d → fits_all form text ≡ true
    → fits_all (date_form form) (date_text d ++ text) ≡ true
date_fits d form text short fit =
    two_fit (d.year / 100) _ (omega (arith, short.year)) (two_fit (d.year % 100) _ (omega arith)
    (two_fit d.month _ short.month (two_fit d.day _ short.day fit)))

time_fits : (s : ℕ) (form text : List ℕ) → s < 86400 → fits_all form text ≡ true
    → fits_all (time_form form) (time_text s ++ text) ≡ true
time_fits s form text low fit =
    two_fit (s / 3600) _ (omega arith) (two_fit (s / 60 % 60) _ (omega arith) (two_fit (s % 60) _ (omega arith) fit))

distance_fits : (n : ℕ) (form text : List ℕ) → n ≤ 1439 → fits_all form text ≡ true
    → fits_all (distance_form form) (distance_text n ++ text) ≡ true
distance_fits n form text low fit = two_fit (n / 60) _ (omega arith) (two_fit (n % 60) _ (omega arith) fit)

offset_fits : (minutes : ℤ) (form text : List ℕ) → IsOffset minutes → fits_all form text ≡ true
    → fits_all (offset_form form) (offset_text minutes ++ text) ≡ true
offset_fits (pos n) form text within fit = distance_fits n form text (omega (arith, ints, within.1)) fit
offset_fits (negsuc n) form text within fit = distance_fits (suc n) form text (omega (arith, ints, within.0)) fit

-- a stamp in front
stamp_fits : (moment : ℕ) (minutes : ℤ) (form text : List ℕ) → moment ≤ LAST_MOMENT → IsOffset minutes → fits_all form text ≡ true
    → fits_all (stamp_form form) (stamp_text moment minutes ++ text) ≡ true
unfolding stamp_text
stamp_fits moment minutes form text low within fit =
    let clock = clock_seconds moment minutes in
    let early : clock / 86400 ≤ 200000 = omega (arith, clock_below moment minutes low within) in
    let time = time_text (clock % 86400) ++ (offset_text minutes ++ text) in
    date_fits (day_at (clock / 86400)) (84 ∷ time_form (offset_form form)) (84 ∷ time) (day_is_short (clock / 86400) early)
    (time_fits (clock % 86400) (offset_form form) (offset_text minutes ++ text) (omega arith)
    (offset_fits minutes form text within fit))

stamp_long : (moment : ℕ) (minutes : ℤ) → length (stamp_text moment minutes) ≡ 20
unfolding stamp_text
stamp_long moment (pos n) = refl
stamp_long moment (negsuc n) = refl

-- ---- names of archives

-- a number after two stamps
number_behind : (front digits : List ℕ) → length front ≡ 42 → fits_all form_of_stamps front ≡ true
    → archive_number (front ++ digits) ≡ number_of digits
number_behind front digits long fit =
    let enough : nat_le 42 (length (front ++ digits)) ≡ true = le-leb _ _ (omega (arith, length-append front digits)) in
    rw (enough, take_at front digits 42 long, drop_at front digits 42 long, fit) refl

pub archive_is_of_number : (begin end id : ℕ) (offset : ℤ) → begin ≤ LAST_MOMENT → end ≤ LAST_MOMENT → IsOffset offset → id < 2 ^ 64
    → archive_number (archive_name_text begin end offset id) ≡ Some id
unfolding archive_name_text
archive_is_of_number begin end id offset from to within small =
    let first = stamp_text begin offset in
    let second = stamp_text end offset in
    let rest = 45 ∷ (second ++ (45 ∷ [])) in
    let front = first ++ rest in
    let long : length front ≡ 42 =
    omega (arith, length-append first rest, length-append second (45 ∷ []), stamp_long begin offset, stamp_long end offset) in
    let fit : fits_all form_of_stamps front ≡ true =
    stamp_fits begin offset (45 ∷ stamp_form (45 ∷ [])) rest from within (stamp_fits end offset (45 ∷ []) (45 ∷ []) to within refl) in
    let parts : front ++ decimal id ≡ first ++ (45 ∷ (second ++ (45 ∷ decimal id))) = simp append_assoc in
    ap archive_number (sym parts) ∙ number_behind front (decimal id) long fit ∙ number_is id small
