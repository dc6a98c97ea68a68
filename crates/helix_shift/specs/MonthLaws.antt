-- Months counted from January of the year 1, and where a shift by months leads.
use Rattle.std.proofs.Common.{◌≡◌, ℕ, zero, suc, ◌+◌, ◌-◌, ◌*◌, ◌/◌, ◌%◌, ◌<◌, ◌≤◌, min, ℤ, pos, negsuc, ◌+ℤ◌, ◌≤ℤ◌, cond, refl, ap, subst, ◌∙◌, arith, add-zero}
use Rattle.std.proofs.Common.{⊎_elim}
use Rattle.std.proofs.lemmas.Bool.{cases_lt, lt-ltb, le-ltb}
use Rattle.std.proofs.lemmas.Int.{ints}
use Rattle.helix_ladders.specs.Calendar.{IsDate, days_of_year, days_of_month, month_start, day_number, year_of, month_of, day_of_month, days_of_calendar, midnight}
use Rattle.helix_ladders.specs.Shift.{after_all, before_all, month_index, day_in_month, midnight_in_month, shifted_months}
use Rattle.helix_ladders.proofs.Totals.{sum_up_to-zero, sum_up_to-suc, sum_up_to-next}
use Rattle.helix_ladders.proofs.GregorianYears.{days_of_months, end_of_calendar}
use Rattle.helix_ladders.proofs.MonthStarts.{month_bound}
use Rattle.helix_ladders.proofs.DaysHaveDates.{day_has_date}

-- the first day of a month
start_of : ℕ → ℕ
start_of index = month_start (index / 12 + 1) (index % 12 + 1)

-- the length of a month
length_of : ℕ → ℕ
length_of index = days_of_month (index / 12 + 1) (index % 12 + 1)

length_of-from_28 : (index : ℕ) → 28 ≤ length_of index
unfolding length_of
length_of-from_28 index = (month_bound (index / 12 + 1) (index % 12 + 1) (omega arith) (omega arith)).0

next_in_year : (year month : ℕ) → 1 ≤ month → month_start year (month + 1)
    ≡ month_start year month + days_of_month year month
next_in_year year month from_1 = omega (arith, sum_up_to-next (days_of_month year) month from_1)

january_next : (year : ℕ) → 1 ≤ year → month_start (year + 1) 1 ≡ month_start year 12 + days_of_month year 12
january_next year from_1 =
    omega (
      arith,
      sum_up_to-next days_of_year year from_1,
      sum_up_to-zero (days_of_month (year + 1)),
      days_of_months year,
      sum_up_to-suc (days_of_month year) 11,
    )

-- a month is followed by the next one
start_of-suc : (index : ℕ) → start_of (suc index) ≡ start_of index + length_of index
unfolding start_of length_of
start_of-suc index =
    ⊎_elim {A = index % 12 < 11} {B = 11 ≤ index % 12}
    (λ inside.
    let same : suc index / 12 + 1 ≡ index / 12 + 1 = omega arith in
    let next : suc index % 12 + 1 ≡ index % 12 + 1 + 1 = omega arith in
    ap (λ year. month_start year (suc index % 12 + 1)) same
    ∙ (ap (λ month. month_start (index / 12 + 1) month) next
    ∙ next_in_year (index / 12 + 1) (index % 12 + 1) (omega arith)))
    (λ last.
    let next : suc index / 12 + 1 ≡ index / 12 + 1 + 1 = omega arith in
    let first : suc index % 12 + 1 ≡ 1 = omega arith in
    let twelve : 12 ≡ index % 12 + 1 = omega arith in
    ap (λ year. month_start year (suc index % 12 + 1)) next
    ∙ (ap (λ month. month_start (index / 12 + 1 + 1) month) first
    ∙ (january_next (index / 12 + 1) (omega arith)
    ∙ ap (λ month. month_start (index / 12 + 1) month + days_of_month (index / 12 + 1) month) twelve)))
    (cases_lt (index % 12) 11)

start_of-more : (index more : ℕ) → start_of index ≤ start_of (index + more)
start_of-more index zero = rw add-zero (omega arith)
start_of-more index (suc more) =
    let same : index + suc more ≡ suc (index + more) = omega arith in
    rw same (omega (arith, start_of-suc (index + more), start_of-more index more))

start_of-le : (index later : ℕ) → index ≤ later → start_of index ≤ start_of later
start_of-le index later below =
    let same : index + (later - index) ≡ later = omega arith in
    subst (λ k. start_of index ≤ start_of k) same (start_of-more index (later - index))

-- a later month begins after all days of this one
starts_after : (index later : ℕ) → index < later → start_of index + length_of index ≤ start_of later
starts_after index later below = omega (arith, start_of-suc index, start_of-le (suc index) later (omega arith))

-- the months end with the calendar
start_of-end : start_of 119988 ≡ days_of_calendar
unfolding start_of
start_of-end = omega (arith, end_of_calendar, sum_up_to-zero (days_of_month 10000))

-- a day of a month
record IsInMonth (index number day : ℕ) : Type 0 where
  in_calendar : index < 119988
  from_1 : 1 ≤ number
  to_last : number ≤ length_of index
  there : start_of index + number ≡ day + 1

in_month_of : (year month number day : ℕ) → IsDate year month number → day_number year month number ≡ day
    → IsInMonth (12 * (year - 1) + (month - 1)) number day
unfolding start_of length_of
in_month_of year month number day date is =
    let of_year : year ≡ (12 * (year - 1) + (month - 1)) / 12 + 1 = omega (
      arith,
      date.year_from_1,
      date.month_from_1,
      date.month_to_12,
    ) in
    let of_month : month ≡ (12 * (year - 1) + (month - 1)) % 12 + 1 = omega (
      arith,
      date.month_from_1,
      date.month_to_12,
    ) in
    record {
      in_calendar = omega (arith, date.year_to_9999, date.month_to_12);
      from_1 = date.day_from_1;
      to_last = subst (λ y. number ≤ days_of_month y ((12 * (year - 1) + (month - 1)) % 12 + 1)) of_year
          (subst (λ m. number ≤ days_of_month year m) of_month date.day_to_last);
      there = subst (λ y. month_start y ((12 * (year - 1) + (month - 1)) % 12 + 1) + number ≡ day + 1) of_year
          (subst (λ m. month_start year m + number ≡ day + 1) of_month (omega (arith, date.day_from_1, is)));
    }

in_month : (day : ℕ) → day < days_of_calendar → IsInMonth (month_index day) (day_of_month day) day
in_month day within =
    let dated = day_has_date day within in
    in_month_of (year_of day) (month_of day) (day_of_month day) day dated.date dated.number

-- a later day is in no earlier month, and in the same month it has no lesser number
module _ (i j d e a b : ℕ) (first : IsInMonth i d a) (second : IsInMonth j e b) (below : a ≤ b) where
  months_ordered : i ≤ j
  months_ordered =
      ⊎_elim {A = j < i} {B = i ≤ j}
      (λ before. absurd (omega (
        arith,
        starts_after j i before,
        first.there,
        first.from_1,
        second.there,
        second.to_last,
      )))
      (λ is. is)
      (cases_lt j i)

  numbers_ordered : i ≡ j → d ≤ e
  numbers_ordered same = omega (arith, ap start_of same, first.there, second.there)

-- the day with a number in a month, or the month's last one
day_in_month_is : (index number : ℕ) → day_in_month index number
    ≡ start_of index + (min number (length_of index) - 1)
unfolding start_of length_of
day_in_month_is index number = refl

days_in_months_rise : (i j d e : ℕ) → i ≤ j → (i ≡ j → d ≤ e) → day_in_month i d ≤ day_in_month j e
days_in_months_rise i j d e below numbers =
    ⊎_elim {A = i < j} {B = j ≤ i}
    (λ before. omega (
      arith,
      day_in_month_is i d,
      day_in_month_is j e,
      length_of-from_28 i,
      starts_after i j before,
    ))
    (λ not_before.
    let same : i ≡ j = omega arith in
    subst (λ k. day_in_month i d ≤ day_in_month k e) same (omega (
      arith,
      day_in_month_is i d,
      day_in_month_is i e,
      numbers same,
    )))
    (cases_lt i j)

days_in_calendar : (index number : ℕ) → index < 119988 → day_in_month index number < days_of_calendar
days_in_calendar index number within =
    omega (
      arith,
      day_in_month_is index number,
      length_of-from_28 index,
      starts_after index 119988 within,
      start_of-end,
    )

-- the two cases of the calendar's end
midnight_within : (index number : ℕ) → index < 119988
    → midnight_in_month (pos index) number ≡ midnight (day_in_month index number)
midnight_within index number within =
    ap (λ b. cond b (midnight (day_in_month index number)) after_all) (lt-ltb index 119988 within)

midnight_past : (index number : ℕ) → 119988 ≤ index → midnight_in_month (pos index) number ≡ after_all
midnight_past index number past =
    ap (λ b. cond b (midnight (day_in_month index number)) after_all) (le-ltb index 119988 past)

-- no day is shifted before the calendar's beginning, or after its end
midnights_from : (at : ℤ) (number : ℕ) → before_all ≤ℤ midnight_in_month at number
midnights_from (negsuc below) number = omega (arith, ints)
midnights_from (pos index) number =
    ⊎_elim {A = index < 119988} {B = 119988 ≤ index}
    (λ within. rw (midnight_within index number within) (omega (arith, ints)))
    (λ past. rw (midnight_past index number past) (omega (arith, ints)))
    (cases_lt index 119988)

midnights_to : (at : ℤ) (number : ℕ) → midnight_in_month at number ≤ℤ after_all
midnights_to (negsuc below) number = omega (arith, ints)
midnights_to (pos index) number =
    ⊎_elim {A = index < 119988} {B = 119988 ≤ index}
    (λ within. rw (midnight_within index number within) (omega (arith, ints, days_in_calendar index number within)))
    (λ past. rw (midnight_past index number past) (omega (arith, ints)))
    (cases_lt index 119988)

midnights_rise : (at later : ℤ) (d e : ℕ) → at ≤ℤ later → (at ≡ later → d ≤ e)
    → midnight_in_month at d ≤ℤ midnight_in_month later e
midnights_rise (negsuc n) later d e below numbers = midnights_from later e
midnights_rise (pos i) (negsuc n) d e below numbers = absurd (omega (arith, ints))
midnights_rise (pos i) (pos j) d e below numbers =
    ⊎_elim {A = j < 119988} {B = 119988 ≤ j}
    (λ within.
    let rise : day_in_month i d ≤ day_in_month j e =
    days_in_months_rise i j d e (omega (arith, ints)) (λ same. numbers (ap pos same)) in
    rw (midnight_within i d (omega (arith, ints)), midnight_within j e within) (omega (arith, ints)))
    (λ past. rw (midnight_past j e past) (midnights_to (pos i) d))
    (cases_lt j 119988)

pub months_from : (n : ℤ) (day : ℕ) → before_all ≤ℤ shifted_months n day
months_from n day = midnights_from (pos (month_index day) +ℤ n) (day_of_month day)

pub months_to : (n : ℤ) (day : ℕ) → shifted_months n day ≤ℤ after_all
months_to n day = midnights_to (pos (month_index day) +ℤ n) (day_of_month day)

-- a later day isn't shifted to an earlier one
pub months_rise : (n : ℤ) (a b : ℕ) → a ≤ b → b < days_of_calendar → shifted_months n a ≤ℤ shifted_months n b
months_rise n a b below within =
    let first = in_month a (omega arith) in
    let second = in_month b within in
    let order : month_index a ≤ month_index b = months_ordered _ _ _ _ a b first second below in
    midnights_rise (pos (month_index a) +ℤ n) (pos (month_index b) +ℤ n) (day_of_month a) (day_of_month b)
    (omega (arith, ints, order))
    (λ same.
    let index : month_index a ≡ month_index b = omega (arith, ints, same) in
    numbers_ordered _ _ _ _ a b first second below index)
