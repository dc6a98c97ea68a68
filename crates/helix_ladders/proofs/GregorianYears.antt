-- The days of years and of months.
use Rattle.std.proofs.Common.{◌≡◌, ℕ, zero, suc, ◌+◌, ◌*◌, ◌/◌, true, false, cond, refl, arith}
use Rattle.std.proofs.lemmas.Bool.Decides.{nat_tests}
use Rattle.helix_ladders.specs.Calendar.{sum_up_to, is_leap_year, days_of_year, days_of_month, days_of_calendar}
use Rattle.helix_ladders.proofs.Totals.{sum_up_to-suc, sum_up_to-zero}

-- a year's day more, by quotients
leap_step : (n : ℕ) → days_of_year (suc n) + suc n / 100 + n / 4 + n / 400 ≡ 365 + suc n / 4 + suc n / 400 + n / 100
leap_step n = grind (arith, nat_tests)

-- the days of the first n years
pub days_of_years : (n : ℕ) → sum_up_to days_of_year n + n / 100 ≡ 365 * n + n / 4 + n / 400
days_of_years zero = omega (arith, sum_up_to-zero days_of_year)
days_of_years (suc n) = omega (arith, sum_up_to-suc days_of_year n, days_of_years n, leap_step n)

-- the calendar ends with the year 9999
pub end_of_calendar : sum_up_to days_of_year 9999 ≡ days_of_calendar
end_of_calendar = omega (arith, days_of_years 9999)

-- the months of a year make up the year
pub days_of_months : (year : ℕ) → sum_up_to (days_of_month year) 12 ≡ days_of_year year
unfolding sum_up_to
days_of_months year =
    elim (is_leap_year year) as (λ b. 0 + 31 + cond b 29 28 + 31 + 30 + 31 + 30 + 31 + 31 + 30 + 31 + 30 + 31
    ≡ cond b 366 365) [ true ↦ refl | false ↦ refl ]
