-- Two digits, and the calendar that is counted day by day.
use Rattle.std.proofs.Common.{◌≡◌, ℕ, zero, suc, ◌+◌, ◌-◌, ◌*◌, ◌/◌, ◌%◌, ◌^◌, ◌<◌, ◌≤◌, inl, inr, refl, sym, ap, ◌∙◌, arith, rules, false, [], ◌∷◌, ◌++◌, ℤ, pos, negsuc, ◌+ℤ◌, ◌*ℤ◌, ◌≤ℤ◌, unsigned_abs, nat_lt, to_z, of_z, w32, w64}
use Rattle.std.specs.Int.{IsInRange}
use Rattle.std.specs.Fmt.{decimal, padded_integral, format_spec, char_count}
use Rattle.std.proofs.lemmas.Fmt.{decimal_digit, decimal_step}
use Rattle.std.proofs.lemmas.Bool.{cases_order, cond_both, ltb-true, ltb-false}
use Rattle.std.proofs.lemmas.Int.{by_lt_z, to_z_pos}
use Rattle.jiff.specs.Words.{days_in_month, epoch_day, civil_nanos, nanos_of_seconds, IsWithin}
use Rattle.jiff_core.specs.declared.civil.date.Date.{Date}
use Rattle.jiff_core.specs.declared.civil.datetime.DateTime.{DateTime}
use Rattle.jiff_core.specs.declared.civil.time.Time.{Time}
use Rattle.jiff_core.specs.Calendar.{days_from_civil}
use Rattle.jiff_core.specs.Time.{time_seconds}
use Rattle.jiff_core.proofs.SignedLemmas.{signed_arith, back_small}
use Rattle.jiff_core.proofs.CalendarLemmas.{days_from_civil-day_count, day_count-lt_year, days_in_month_bounds}
use Rattle.jiff_core.proofs.DateLemmas.{civil, epoch_day_injective, days_from_civil-day, days_from_civil-next_month, days_from_civil-next_year}
use Rattle.jiff_core.proofs.DateTimeLemmas.{civil_nanos-parts}
use Rattle.tr_terms.specs.declared.limits.TheConstants.{LAST_MOMENT}
use Rattle.tr_chunk.specs.ArchiveName.{Day, first_day, day_after, day_at, clock_seconds, two_digits}
use Rattle.tr_chunk.specs.Civil.{day_of}

-- ---- digits

decimal_two : (n : ℕ) → 10 ≤ n → n < 100 → decimal n ≡ two_digits n
decimal_two n low high =
    decimal_step n low (omega arith) ∙ ap (λ t. t ++ ((48 + n % 10) ∷ [])) (decimal_digit (n / 10) (omega arith))

decimal_one : (n : ℕ) → n < 10 → padded_integral (format_spec 32 0 4 2 (2 ^ 64 - 1)) false [] (decimal n) ≡ two_digits n
unfolding padded_integral char_count
decimal_one n small =
    let high : n / 10 ≡ 0 = omega arith in
    let low : n % 10 ≡ n = omega arith in
    rw (decimal_digit n small, high, low)

decimal_more : (n : ℕ) → 10 ≤ n → n < 100 → padded_integral (format_spec 32 0 4 2 (2 ^ 64 - 1)) false [] (decimal n) ≡ two_digits n
unfolding padded_integral char_count
decimal_more n low high = rw (decimal_two n low high)

-- what {:02} writes for a number below 100
pub two_digits_written : (n : ℕ) → n < 100 → padded_integral (format_spec 32 0 4 2 (2 ^ 64 - 1)) false [] (decimal n) ≡ two_digits n
two_digits_written n small =
    elim (cases_order n 10) [
      | inl same ↦ decimal_more n (omega arith) small
      | inr (inl lt) ↦ decimal_one n lt
      | inr (inr gt) ↦ decimal_more n (omega arith) small
    ]

-- ---- days

-- the calendar has the day, and it is the n-th after the first
pub record IsDay (d : Day) (n : ℕ) : Type 0 where
  pub month_in : IsInRange 1 12 d.month
  pub day_in : IsInRange 1 (days_in_month (pos d.year) d.month) d.day
  pub number : days_from_civil (pos d.year) d.month d.day +ℤ pos 1 ≡ pos n

epoch_is_zero : days_from_civil (pos 1970) 1 1 ≡ pos 0
unfolding days_from_civil
epoch_is_zero = omega (arith, signed_arith)

first_is : IsDay first_day 0
first_is =
    record {
      month_in = search rules;
      day_in = search rules;
      number =
          omega (arith, signed_arith, days_from_civil-next_year (pos 1969) (pos 1970) (search rules) refl, epoch_is_zero);
    }

next_in_month : (d : Day) (n : ℕ) → IsDay d n → d.day < days_in_month (pos d.year) d.month → IsDay (record d { day = d.day + 1 }) (suc n)
next_in_month d n h lt =
    record {
      month_in = h.month_in;
      day_in = search (arith, h.day_in, lt);
      number =
          omega (
            arith,
            signed_arith,
            h.number,
            days_from_civil-day (pos d.year) d.month d.day (d.day + 1) h.day_in.0 (omega arith),
          );
    }

next_month : (d : Day) (n : ℕ) → IsDay d n → days_in_month (pos d.year) d.month ≤ d.day → d.month < 12
    → IsDay (record { year = d.year; month = d.month + 1; day = 1 }) (suc n)
next_month d n h last lt =
    record {
      month_in = search (arith, h.month_in, lt);
      day_in = (omega arith, omega (arith, days_in_month_bounds (pos d.year) (d.month + 1)));
      number =
          omega (
            arith,
            signed_arith,
            h.number,
            days_from_civil-next_month (pos d.year) d.month d.day h.month_in.0 (omega (arith, h.day_in, last)),
          );
    }

next_year : (d : Day) (n : ℕ) → IsDay d n → days_in_month (pos d.year) d.month ≤ d.day → 12 ≤ d.month
    → IsDay (record { year = d.year + 1; month = 1; day = 1 }) (suc n)
next_year d n h last twelve =
    let december : d.month ≡ 12 = omega (arith, h.month_in) in
    let low = rw december at last in
    let high = rw december at h.day_in.1 in
    let thirty_one : d.day ≡ 31 = omega (arith, low, high) in
    record {
      month_in = search rules;
      day_in = search rules;
      number =
          omega (
            arith,
            signed_arith,
            rw (december, thirty_one) at h.number,
            days_from_civil-next_year (pos d.year) (pos (d.year + 1)) (omega (arith, signed_arith))
                (omega (arith, signed_arith)),
          );
    }

day_after_is : (d : Day) (n : ℕ) → IsDay d n → IsDay (day_after d) (suc n)
day_after_is d n h =
    cond_both (nat_lt d.day (days_in_month (pos d.year) d.month)) _ _ (λ x. IsDay x (suc n))
    (λ lt. next_in_month d n h (ltb-true _ _ lt))
    (λ ge. cond_both (nat_lt d.month 12) _ _ (λ x. IsDay x (suc n))
    (λ lt. next_month d n h (ltb-false _ _ ge) (ltb-true _ _ lt))
    (λ le. next_year d n h (ltb-false _ _ ge) (ltb-false _ _ le)))

pub day_at_is : (n : ℕ) → IsDay (day_at n) n
unfolding day_at
day_at_is zero = first_is
day_at_is (suc n) = day_after_is (day_at n) n (day_at_is n)

same_day : (y m d : ℕ) (x : Day) → y ≡ x.year → m ≡ x.month → d ≡ x.day → record { year = y; month = m; day = d } ≡ x
same_day y m d x year month day = rw (year, month, day)

-- a date of a day's number is that day
date_is : (date : Date) (x : Day) (n : ℕ) → IsDay x n → epoch_day date +ℤ pos 1 ≡ pos n → day_of date ≡ x
date_is date x n h number =
    by_lt_z date.year (pos x.year)
    (λ lt. absurd (omega (
      arith,
      signed_arith,
      number,
      h.number,
      days_from_civil-day_count date.year date.month date.day,
      days_from_civil-day_count (pos x.year) x.month x.day,
      day_count-lt_year date.year date.month date.day (pos x.year) x.month x.day (civil date) h.day_in.0 lt,
    )))
    (λ le.
    let other : Date = record {
      year = pos x.year;
      month = x.month;
      day = x.day;
      year_in = (omega (arith, signed_arith), omega (arith, signed_arith, le, date.year_in));
      month_in = h.month_in;
      day_in = h.day_in;
    } in
    let same = epoch_day_injective date other (omega (arith, signed_arith, number, h.number)) in
    let year : unsigned_abs date.year ≡ x.year = rw same.0 refl in
    same_day (unsigned_abs date.year) date.month date.day x year same.1 same.2)

-- the day that has the number
pub date_is_day_at : (date : Date) (n : ℕ) → epoch_day date +ℤ pos 1 ≡ pos n → day_of date ≡ day_at n
date_is_day_at date n number = date_is date (day_at n) n (day_at_is n) number

-- ---- clocks

seconds_of_nanos : (second : ℕ) (minutes day : ℤ) (s sub : ℕ) → s < 86400 → sub < 1000000000
    → day *ℤ pos 86400000000000 +ℤ pos (s * 1000000000 + sub)
    ≡ nanos_of_seconds (pos second) +ℤ nanos_of_seconds (minutes *ℤ pos 60)
    → day *ℤ pos 86400 +ℤ pos s ≡ pos second +ℤ minutes *ℤ pos 60
seconds_of_nanos second minutes day s sub low small e = omega (arith, signed_arith)

not_negative : (z : ℤ) → pos 0 ≤ℤ z → pos (unsigned_abs z) ≡ z
not_negative (pos n) h = refl
not_negative (negsuc n) h = absurd (omega (arith, signed_arith))

first_day_on : (second : ℕ) (minutes : ℤ) → IsWithin 1439 minutes
    → pos (unsigned_abs (pos (second + 86400) +ℤ minutes *ℤ pos 60)) ≡ pos (second + 86400) +ℤ minutes *ℤ pos 60
first_day_on second minutes within = not_negative (pos (second + 86400) +ℤ minutes *ℤ pos 60) (omega (arith, signed_arith, within.0))

splits : (t s : ℕ) (day : ℤ) → s < 86400 → day *ℤ pos 86400 +ℤ pos (s + 86400) ≡ pos t → (day +ℤ pos 1 ≡ pos (t / 86400)) × (s ≡ t % 86400)
splits t s day low e = (omega (arith, signed_arith), omega (arith, signed_arith))

-- the day and the second of it that a clock shows
pub clock_splits : (second : ℕ) (minutes day : ℤ) (s sub : ℕ) → s < 86400 → sub < 1000000000 → IsWithin 1439 minutes
    → day *ℤ pos 86400000000000 +ℤ pos (s * 1000000000 + sub)
    ≡ nanos_of_seconds (pos second) +ℤ nanos_of_seconds (minutes *ℤ pos 60)
    → (day +ℤ pos 1 ≡ pos (unsigned_abs (pos (second + 86400) +ℤ minutes *ℤ pos 60) / 86400))
    × (s ≡ unsigned_abs (pos (second + 86400) +ℤ minutes *ℤ pos 60) % 86400)
clock_splits second minutes day s sub low small within e =
    let here = seconds_of_nanos second minutes day s sub low small e in
    let on = first_day_on second minutes within in
    splits (unsigned_abs (pos (second + 86400) +ℤ minutes *ℤ pos 60)) s day low (omega (arith, signed_arith, here, on))

time_within : (t : Time) → time_seconds t < 86400
time_within t = omega (arith, t.hour_in, t.minute_in, t.second_in)

-- what a clock shows if its civil nanoseconds are the moment's whole seconds at the offset
pub clock_shows : (moment : ℕ) (minutes : ℤ) (dt : DateTime) → IsWithin 1439 minutes
    → civil_nanos dt ≡ nanos_of_seconds (pos (moment / 1000000000)) +ℤ nanos_of_seconds (minutes *ℤ pos 60)
    → (day_of dt.date ≡ day_at (clock_seconds moment minutes / 86400))
    × (time_seconds dt.time ≡ clock_seconds moment minutes % 86400)
clock_shows moment minutes dt within e =
    let both = clock_splits (moment / 1000000000) minutes (epoch_day dt.date) (time_seconds dt.time)
    dt.time.subsec_nanosecond (time_within dt.time) dt.time.subsec_in within (sym (civil_nanos-parts dt) ∙ e) in
    (date_is_day_at dt.date (clock_seconds moment minutes / 86400) both.0, both.1)

-- ---- machine numbers

-- the whole seconds of a moment, as a signed number
pub whole_seconds : (moment got : ℕ) → got ≡ moment → got ≤ LAST_MOMENT → to_z w64 (got / 1000000000) ≡ pos (moment / 1000000000)
whole_seconds moment got same low = to_z_pos w64 (got / 1000000000) (omega arith) ∙ ap (λ n. pos (n / 1000000000)) same

abs_within : (m : ℕ) (z : ℤ) → IsWithin m z → unsigned_abs z ≤ m
abs_within m (pos n) h = omega (arith, signed_arith, h.1)
abs_within m (negsuc n) h = omega (arith, signed_arith, h.0)

times_sixty : (z : ℤ) → IsWithin 1439 z → IsWithin 86340 (z *ℤ pos 60)
times_sixty z h = (omega (arith, signed_arith, h.0), omega (arith, signed_arith, h.1))

-- the seconds of an offset in minutes
pub offset_seconds : (minutes got : ℤ) → got ≡ minutes → IsWithin 1439 got
    → to_z w32 (of_z w32 (to_z w32 (of_z w32 got) *ℤ pos 60)) ≡ minutes *ℤ pos 60
offset_seconds minutes got same within =
    let first : to_z w32 (of_z w32 got) ≡ got = back_small w32 got (omega (arith, abs_within 1439 got within)) in
    let second : to_z w32 (of_z w32 (got *ℤ pos 60)) ≡ got *ℤ pos 60 =
    back_small w32 (got *ℤ pos 60) (omega (arith, abs_within 86340 (got *ℤ pos 60) (times_sixty got within))) in
    ap (λ z. to_z w32 (of_z w32 (z *ℤ pos 60))) first ∙ second ∙ ap (λ z. z *ℤ pos 60) same

-- the sum of what each of them is
pub civil_sum : (total nanos seconds second ahead : ℤ) (minutes whole : ℤ) → total ≡ nanos +ℤ nanos_of_seconds seconds
    → nanos ≡ second *ℤ pos 1000000000 → second ≡ whole → seconds ≡ ahead → ahead ≡ minutes
    → total ≡ nanos_of_seconds whole +ℤ nanos_of_seconds minutes
civil_sum total nanos seconds second ahead minutes whole t n s a m = rw (t, n, s, a, m) refl
