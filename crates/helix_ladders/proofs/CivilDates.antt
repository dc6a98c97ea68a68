-- The date of a day number is the date that it was made of.
use Rattle.std.proofs.Common.{◌≡◌, ℕ, ◌+◌, ◌-◌, ◌<◌, ◌≤◌, true, false, nat_le, unwrap_or, ap, ◌∙◌, subst, arith}
use Rattle.std.proofs.lemmas.Bool.Decides.{nat_tests}
use Rattle.helix_ladders.specs.Calendar.{sum_up_to, last_below, IsDate, days_of_year, days_of_month, year_start, month_start, day_number, year_of, month_of, day_of_month, days_of_calendar}
use Rattle.helix_ladders.proofs.Totals.{sum_up_to-le, sum_up_to-next, last_below-some}
use Rattle.helix_ladders.proofs.GregorianYears.{days_of_months, end_of_calendar}

pub nat_le_true : (a b : ℕ) → a ≤ b → nat_le a b ≡ true
nat_le_true a b below = grind (arith, nat_tests)

pub nat_le_false : (a b : ℕ) → b < a → nat_le a b ≡ false
nat_le_false a b above = grind (arith, nat_tests)

module _ (year month day : ℕ) (date : IsDate year month day) where
  -- the months before are within the year
  pub month_end : sum_up_to (days_of_month year) (month - 1) + days_of_month year month ≤ days_of_year year
  month_end =
      omega (
        arith,
        sum_up_to-next (days_of_month year) month date.month_from_1,
        days_of_months year,
        sum_up_to-le (days_of_month year) (month + 1 - 1) 12 (omega arith),
      )

  -- the year after begins later
  pub year_end : day_number year month day < year_start year + days_of_year year
  year_end = omega (arith, month_end)

  later_year : (later : ℕ) → year < later → day_number year month day < year_start later
  later_year later above =
      omega (
        arith,
        year_end,
        sum_up_to-next days_of_year year date.year_from_1,
        sum_up_to-le days_of_year (year + 1 - 1) (later - 1) (omega arith),
      )

  later_month : (later : ℕ) → month < later → day_number year month day < month_start year later
  later_month later above =
      omega (
        arith,
        sum_up_to-next (days_of_month year) month date.month_from_1,
        sum_up_to-le (days_of_month year) (month + 1 - 1) (later - 1) (omega arith),
      )

  pub year_of-day_number : year_of (day_number year month day) ≡ year
  year_of-day_number =
      ap (λ o. unwrap_or o 1)
      (last_below-some (λ y. nat_le (year_start y) (day_number year month day)) 10000 year (omega arith)
      (nat_le_true (year_start year) (day_number year month day) (omega arith))
      (λ later above within. nat_le_false (year_start later) (day_number year month day) (later_year later above)))

  last_month : unwrap_or (last_below (λ m. nat_le (month_start year m) (day_number year month day)) 13) 1 ≡ month
  last_month =
      ap (λ o. unwrap_or o 1)
      (last_below-some (λ m. nat_le (month_start year m) (day_number year month day)) 13 month (omega arith)
      (nat_le_true (month_start year month) (day_number year month day) (omega arith))
      (λ later above within. nat_le_false (month_start year later) (day_number year month day)
      (later_month later above)))

  pub month_of-day_number : month_of (day_number year month day) ≡ month
  month_of-day_number =
      ap (λ y. unwrap_or (last_below (λ m. nat_le (month_start y m) (day_number year month day)) 13) 1)
      year_of-day_number ∙ last_month

  pub day_of_month-day_number : day_of_month (day_number year month day) ≡ day
  day_of_month-day_number =
      ap (λ y. day_number year month day - month_start y (month_of (day_number year month day)) + 1) year_of-day_number
      ∙ ap (λ m. day_number year month day - month_start year m + 1) month_of-day_number
      ∙ omega arith

  -- and it is a day of the calendar
  pub in_calendar : day_number year month day < days_of_calendar
  in_calendar =
      omega (
        arith,
        year_end,
        end_of_calendar,
        sum_up_to-next days_of_year year date.year_from_1,
        sum_up_to-le days_of_year (year + 1 - 1) 9999 (omega arith),
      )

-- the parts of a date, found one after the other
pub parts_of_date : (year month rest day_of_year day : ℕ) → 1 ≤ year → year ≤ 9999 → 1 ≤ month → month ≤ 12
    → rest < days_of_month year month
    → year_start year + day_of_year ≡ day → sum_up_to (days_of_month year) (month - 1) + rest ≡ day_of_year
    → (year_of day ≡ year) × (month_of day ≡ month) × (day_of_month day ≡ rest + 1)
parts_of_date year month rest day_of_year day year_from_1 year_to_9999 month_from_1 month_to_12 within of_year
    of_month =
    let date : IsDate year month (rest + 1) =
    record {
      year_from_1 = year_from_1;
      year_to_9999 = year_to_9999;
      month_from_1 = month_from_1;
      month_to_12 = month_to_12;
      day_from_1 = omega arith;
      day_to_last = omega arith;
    } in
    let number : day_number year month (rest + 1) ≡ day = omega arith in (
      subst (λ n. year_of n ≡ year) number (year_of-day_number year month (rest + 1) date),
      subst (λ n. month_of n ≡ month) number (month_of-day_number year month (rest + 1) date),
      subst (λ n. day_of_month n ≡ rest + 1) number (day_of_month-day_number year month (rest + 1) date),
    )
