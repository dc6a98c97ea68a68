-- Midnights that begin a month or a year.
use Rattle.std.proofs.Common.{◌≡◌, ◌≢◌, ℕ, ◌<◌, ℤ, IsTrue, ◌==◌, sym, ap, ◌∙◌, subst, arith}
use Rattle.std.proofs.lemmas.Bool.Decides.{nat_tests}
use Rattle.std.specs.Prelude.{FitsSigned, unsigned_abs}
use Rattle.std.specs.Int.{w128}
use mir.Val.{to_z, of_z}
use Rattle.std.proofs.lemmas.Int.{to_z-of_z}
use Rattle.helix_ladders.specs.Calendar.{IsDate, day_number, days_of_calendar, midnight, month_of, day_of_month}
use Rattle.helix_ladders.specs.Grids.{IsMonthStart, IsYearStart}
use Rattle.helix_ladders.proofs.CivilDates.{month_of-day_number, day_of_month-day_number, in_calendar}

pub equal_from : (a b : ℕ) → IsTrue (a == b) → a ≡ b
equal_from a b same = grind (arith, nat_tests)

-- two days have two midnights
same_day : (a b : ℕ) → midnight a ≡ midnight b → a ≡ b
same_day a b same = omega (arith, ap unsigned_abs same)

-- a moment that fits 128 bits is what its bits say
pub read_moment : (at : ℤ) (day : ℕ) → FitsSigned w128 at → to_z w128 (of_z w128 at) ≡ midnight day → at ≡ midnight day
read_moment at day fits is = sym (to_z-of_z w128 at fits) ∙ is

pub read_none : (at : ℤ) → FitsSigned w128 at
    → ((day : ℕ) → day < days_of_calendar → to_z w128 (of_z w128 at) ≡ midnight day → ⊥) → (day : ℕ)
    → day < days_of_calendar → at ≢ midnight day
read_none at fits none day within is = none day within (to_z-of_z w128 at fits ∙ is)

-- the day that begins a month is the first of one, and so on
pub month_start_day : (at : ℤ) (day : ℕ) → at ≡ midnight day → IsMonthStart at → day_of_month day ≡ 1
month_start_day at day begins (year, month, date, start) =
    subst (λ n. day_of_month n ≡ 1) (sym (same_day day (day_number year month 1) (sym begins ∙ start)))
    (day_of_month-day_number year month 1 date)

pub year_start_day : (at : ℤ) (day : ℕ) → at ≡ midnight day → IsYearStart at
    → (month_of day ≡ 1) × (day_of_month day ≡ 1)
year_start_day at day begins (year, date, start) =
    subst (λ n. (month_of n ≡ 1) × (day_of_month n ≡ 1)) (sym (same_day day (day_number year 1 1) (sym begins ∙ start)))
    (month_of-day_number year 1 1 date, day_of_month-day_number year 1 1 date)

-- a first day of a month begins it
pub month_start_of : (at : ℤ) (day year month number : ℕ) → at ≡ midnight day → IsDate year month number
    → day_number year month number ≡ day → number ≡ 1 → IsMonthStart at
month_start_of at day year month number begins date is first = (
  year,
  month,
  subst (λ d. IsDate year month d) first date,
  begins ∙ ap midnight (sym (sym (ap (day_number year month) first) ∙ is)),
)

pub year_start_of : (at : ℤ) (day year month number : ℕ) → at ≡ midnight day → IsDate year month number
    → day_number year month number ≡ day → month ≡ 1 → number ≡ 1 → IsYearStart at
year_start_of at day year month number begins date is january first =
    let there : day_number year 1 1 ≡ day = sym (ap (λ m. day_number year m 1) january)
    ∙ (sym (ap (day_number year month) first) ∙ is) in (
      year,
      subst (λ m. IsDate year m 1) january (subst (λ d. IsDate year month d) first date),
      begins ∙ ap midnight (sym there),
    )

-- what begins a month or a year begins a day of the calendar
pub month_start_begins : (at : ℤ) → ((day : ℕ) → day < days_of_calendar → at ≢ midnight day) → IsMonthStart at → ⊥
month_start_begins at none (year, month, date, start) =
    none (day_number year month 1) (in_calendar year month 1 date) start

pub year_start_begins : (at : ℤ) → ((day : ℕ) → day < days_of_calendar → at ≢ midnight day) → IsYearStart at → ⊥
year_start_begins at none (year, date, start) = none (day_number year 1 1) (in_calendar year 1 1 date) start
