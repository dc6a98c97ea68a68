-- The year starts next to a day of the calendar.
use Rattle.std.proofs.Common.{◌≡◌, ◌≢◌, ℕ, ◌+◌, ◌-◌, ◌<◌, ◌≤◌, ◌⊎◌, inl, inr, ℤ, pos, ◌≤ℤ◌, refl, ap, subst, arith}
use Rattle.std.proofs.Common.{⊎_elim}
use Rattle.std.proofs.lemmas.Bool.{cases_lt, cases_order}
use Rattle.std.proofs.lemmas.Int.{ints}
use Rattle.jiff_core.proofs.CalendarLemmas.{days_in_month_bounds}
use Rattle.helix_ladders.specs.Calendar.{sum_up_to, IsDate, days_of_year, days_of_month, year_start, month_start, day_number, days_of_calendar, midnight}
use Rattle.helix_ladders.specs.Grids.{IsMonthStart, IsYearStart}
use Rattle.helix_ladders.specs.Scale.{IsLeast, IsGreatest}
use Rattle.helix_ladders.proofs.Totals.{sum_up_to-zero, sum_up_to-suc, sum_up_to-le, sum_up_to-next}
use Rattle.helix_ladders.proofs.GregorianYears.{days_of_months, end_of_calendar}
use Rattle.helix_ladders.proofs.CivilDates.{month_end, year_end, in_calendar}
use Rattle.helix_ladders.proofs.JiffDates.{same_month}
use Rattle.helix_ladders.proofs.MonthStarts.{month_bound, first_of_month, new_year}

pub no_year_after : (day : ℕ) (v : ℤ) → days_of_calendar ≤ day → midnight day ≤ℤ v → IsYearStart v → ⊥
no_year_after day v past reached (year, date, start) = omega (arith, ints, in_calendar year 1 1 date)

module _ (year month number : ℕ) (date : IsDate year month number) where
  -- a year that begins after a day of this one, which isn't its first, begins after all of them
  later_year : (y : ℕ) → IsDate y 1 1 → ((month ≡ 1) × (number ≡ 1) → ⊥)
      → day_number year month number ≤ day_number y 1 1 → day_number (year + 1) 1 1 ≤ day_number y 1 1
  later_year y other no_first reached =
      ⊎_elim {A = year < y} {B = y ≤ year}
      (λ after. omega (
        arith,
        sum_up_to-le days_of_year (year + 1 - 1) (y - 1) (omega arith),
        new_year year,
        sum_up_to-zero (days_of_month y),
      ))
      (λ before. absurd (no_first (first (omega (
        arith,
        sum_up_to-le days_of_year (y - 1) (year - 1) (omega arith),
        sum_up_to-zero (days_of_month y),
        date.day_from_1,
      )))))
      (cases_lt year y)
    where
      first : sum_up_to (days_of_month year) (month - 1) + (number - 1) ≡ 0 → (month ≡ 1) × (number ≡ 1)
      first none = (
        ⊎_elim {A = month < 2} {B = 2 ≤ month} (λ january. omega (arith, date.month_from_1))
            (λ later. absurd (omega (
              arith,
              sum_up_to-le (days_of_month year) 1 (month - 1) (omega arith),
              sum_up_to-suc (days_of_month year) 0,
              sum_up_to-zero (days_of_month year),
              month_bound year 1 (omega arith) (omega arith),
            )))
            (cases_lt month 2),
        omega (arith, date.day_from_1),
      )

  -- the same of years
  pub next_year_least : (day : ℕ) → day_number year month number ≡ day → ((month ≡ 1) × (number ≡ 1) → ⊥) → year < 9999
      → IsLeast (λ v. IsYearStart v × (midnight day ≤ℤ v)) (midnight (day_number (year + 1) 1 1))
  next_year_least day is no_first within =
      record {
        has = (
          (year + 1, first_of_month (year + 1) 1 (omega arith) (omega arith) (omega arith) (omega arith), refl),
          omega (
            arith,
            ints,
            year_end year month number date,
            new_year year,
            sum_up_to-next days_of_year year date.year_from_1,
          ),
        );
        least = λ w h. least_of w h.0 h.1;
      }
    where
      least_of : (w : ℤ) → IsYearStart w → midnight day ≤ℤ w → midnight (day_number (year + 1) 1 1) ≤ℤ w
      least_of w (y, other, start) reached = rw start (omega (
        arith,
        ints,
        later_year y other no_first (omega (arith, ints, rw start at reached)),
      ))

  pub no_next_year : (day : ℕ) (v : ℤ) → day_number year month number ≡ day → ((month ≡ 1) × (number ≡ 1) → ⊥)
      → 9999 ≤ year → midnight day ≤ℤ v → IsYearStart v → ⊥
  no_next_year day v is no_first last reached (y, other, start) =
      omega (
        arith,
        later_year y other no_first (omega (arith, ints, rw start at reached)),
        new_year year,
        other.year_to_9999,
        sum_up_to-zero (days_of_month y),
        sum_up_to-le days_of_year (y - 1) (year + 1 - 1) (omega (arith, other.year_to_9999)),
        in_calendar y 1 1 other,
        ends,
      )
    where
      ends : year_start (year + 1) ≡ days_of_calendar
      ends =
          let end : 9999 ≡ year + 1 - 1 = omega (arith, date.year_to_9999) in
          subst (λ n. sum_up_to days_of_year n ≡ days_of_calendar) end end_of_calendar

  -- and this year
  pub year_start_greatest : (day : ℕ) → day_number year month number ≡ day
      → IsGreatest (λ v. IsYearStart v × (v ≤ℤ midnight day)) (midnight (day_number year 1 1))
  year_start_greatest day is =
      record {
        has = (
          (year, first_of_month year 1 date.year_from_1 date.year_to_9999 (omega arith) (omega arith), refl),
          omega (arith, ints, sum_up_to-zero (days_of_month year)),
        );
        greatest = λ w h. greatest_of w h.0 h.1;
      }
    where
      earlier : (y : ℕ) → IsDate y 1 1 → day_number y 1 1 ≤ day_number year month number
          → day_number y 1 1 ≤ day_number year 1 1
      earlier y other begun =
          ⊎_elim {A = year < y} {B = y ≤ year}
          (λ after.
          absurd
          (omega (
            arith,
            year_end year month number date,
            sum_up_to-next days_of_year year date.year_from_1,
            sum_up_to-le days_of_year (year + 1 - 1) (y - 1) (omega arith),
          )))
          (λ before. omega (
            arith,
            sum_up_to-zero (days_of_month y),
            sum_up_to-zero (days_of_month year),
            sum_up_to-le days_of_year (y - 1) (year - 1) (omega arith),
          ))
          (cases_lt year y)

      greatest_of : (w : ℤ) → IsYearStart w → w ≤ℤ midnight day → w ≤ℤ midnight (day_number year 1 1)
      greatest_of w (y, other, start) within =
          rw start (omega (arith, ints, earlier y other (omega (arith, ints, rw start at within))))

  pub new_year_in_calendar : year < 9999 → day_number (year + 1) 1 1 < days_of_calendar
  new_year_in_calendar within = in_calendar (year + 1) 1 1
      (first_of_month (year + 1) 1 (omega arith) (omega arith) (omega arith) (omega arith))

pub year_start_reached : (day : ℕ) (from v : ℤ) → ((d : ℕ) → from ≤ℤ midnight d → day ≤ d) → from ≤ℤ v → IsYearStart v
    → midnight day ≤ℤ v
year_start_reached day from v least reached (year, date, start) =
    rw start (omega (arith, ints, least (day_number year 1 1) (rw start at reached)))

-- a date that isn't the first of a year
pub no_new_year : (month number : ℕ) → ((month ≡ 1) × (number ≡ 1 → ⊥)) ⊎ (month ≡ 1 → ⊥) → ((month ≡ 1) × (number ≡ 1))
    → ⊥
no_new_year month number (inl (january, later)) first = later first.1
no_new_year month number (inr later) first = later first.0
