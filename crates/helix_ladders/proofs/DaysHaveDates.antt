-- Each day of the calendar has a date, which is the one that its year, month and day of the month are.
use Rattle.std.proofs.Common.{◌≡◌, ℕ, ◌+◌, ◌-◌, ◌<◌, ◌≤◌, true, false, nat_le, unwrap_or, ap, sym, ◌∙◌, subst, arith}
use Rattle.std.proofs.Common.{⊎_elim}
use Rattle.std.proofs.lemmas.Bool.{cases_lt}
use Rattle.std.proofs.lemmas.Bool.Decides.{nat_tests}
use Rattle.helix_ladders.specs.Calendar.{sum_up_to, last_below, IsDate, days_of_year, days_of_month, year_start, month_start, day_number, year_of, month_of, day_of_month, days_of_calendar}
use Rattle.helix_ladders.proofs.Totals.{sum_up_to-zero, sum_up_to-next, last_below_is, IsLastBelow}
use Rattle.helix_ladders.proofs.GregorianYears.{days_of_months, end_of_calendar}
use Rattle.helix_ladders.proofs.CivilDates.{nat_le_true}

le_from : (a b : ℕ) → nat_le a b ≡ true → a ≤ b
le_from a b is = grind (arith, nat_tests)

lt_from : (a b : ℕ) → nat_le a b ≡ false → b < a
lt_from a b is = grind (arith, nat_tests)

-- the year that a day is in
pub record IsYearOf (day y : ℕ) : Type 0 where
  pub is : year_of day ≡ y
  pub from_1 : 1 ≤ y
  pub to_9999 : y ≤ 9999
  pub begun : year_start y ≤ day
  pub goes_on : day < year_start y + days_of_year y

year_found : (day k : ℕ) → day < days_of_calendar → 1 ≤ k → IsLastBelow (λ y. nat_le (year_start y) day) 10000 k
    → IsYearOf day k
year_found day k within from_1 last =
    record {
      is = ap (λ o. unwrap_or o 1) last.found;
      from_1 = from_1;
      to_9999 = omega (arith, last.below);
      begun = le_from _ _ last.passes;
      goes_on =
          ⊎_elim {A = k + 1 < 10000} {B = 10000 ≤ k + 1}
          (λ inside. omega (
            arith,
            lt_from _ _ (last.last (k + 1) (omega arith) inside),
            sum_up_to-next days_of_year k from_1,
          ))
          (λ end.
          let all : 9999 ≡ k + 1 - 1 = omega (arith, last.below) in
          omega (
            arith,
            within,
            sum_up_to-next days_of_year k from_1,
            subst (λ n. sum_up_to days_of_year n ≡ days_of_calendar) all end_of_calendar,
          ))
          (cases_lt (k + 1) 10000);
    }

pub year_of_day : (day : ℕ) → day < days_of_calendar → (y : ℕ) × IsYearOf day y
year_of_day day within =
    let found = last_below_is (λ y. nat_le (year_start y) day) 10000 1 (omega arith)
    (nat_le_true (year_start 1) day (omega (arith, sum_up_to-zero days_of_year))) in
    (found.0, year_found day found.0 within found.1 found.2)

month_found : (day y k : ℕ) → IsYearOf day y → 1 ≤ k → IsLastBelow (λ m. nat_le (month_start y m) day) 13 k
    → (month_of day ≡ k) × (IsDate y k (day - month_start y k + 1)) × (day_number y k (day - month_start y k + 1) ≡ day)
month_found day y k year from_1 last =
    let begun : month_start y k ≤ day = le_from _ _ last.passes in
    let goes_on : day < month_start y k + days_of_month y k =
    ⊎_elim {A = k + 1 < 13} {B = 13 ≤ k + 1}
    (λ inside. omega (
      arith,
      lt_from _ _ (last.last (k + 1) (omega arith) inside),
      sum_up_to-next (days_of_month y) k from_1,
    ))
    (λ end.
    let all : 12 ≡ k + 1 - 1 = omega (arith, last.below) in
    omega (
      arith,
      year.goes_on,
      sum_up_to-next (days_of_month y) k from_1,
      subst (λ n. sum_up_to (days_of_month y) n ≡ days_of_year y) all (days_of_months y),
    ))
    (cases_lt (k + 1) 13) in (
      subst (λ z. unwrap_or (last_below (λ m. nat_le (month_start z m) day) 13) 1 ≡ k) (sym year.is)
          (ap (λ o. unwrap_or o 1) last.found),
      record {
        year_from_1 = year.from_1;
        year_to_9999 = year.to_9999;
        month_from_1 = from_1;
        month_to_12 = omega (arith, last.below);
        day_from_1 = omega arith;
        day_to_last = omega arith;
      },
      omega arith,
    )

-- the date of a day
pub record HasDate (day : ℕ) : Type 0 where
  pub date : IsDate (year_of day) (month_of day) (day_of_month day)
  pub number : day_number (year_of day) (month_of day) (day_of_month day) ≡ day

pub day_has_date : (day : ℕ) → day < days_of_calendar → HasDate day
day_has_date day within =
    let year = year_of_day day within in
    let y = year.0 in
    let found = last_below_is (λ m. nat_le (month_start y m) day) 13 1 (omega arith)
    (nat_le_true (month_start y 1) day (omega (arith, year.1.begun, sum_up_to-zero (days_of_month y)))) in
    let parts = month_found day y found.0 year.1 found.1 found.2 in
    made y found.0 year.1.is parts.0 parts.1 parts.2
  where
    made : (y m : ℕ) → year_of day ≡ y → month_of day ≡ m → IsDate y m (day - month_start y m + 1)
        → day_number y m (day - month_start y m + 1) ≡ day → HasDate day
    made y m of_year of_month date number =
        let of_day : day_of_month day ≡ day - month_start y m + 1 = ap (λ z. day - month_start z (month_of day) + 1)
        of_year ∙ ap (λ k. day - month_start y k + 1) of_month in
        record {
          date = subst (λ a. IsDate a (month_of day) (day_of_month day)) (sym of_year)
              (subst (λ b. IsDate y b (day_of_month day)) (sym of_month) (subst (λ d. IsDate y m d) (sym of_day) date));
          number = ap (λ a. day_number a (month_of day) (day_of_month day)) of_year
              ∙ (ap (λ b. day_number y b (day_of_month day)) of_month ∙ (ap (λ d. day_number y m d) of_day ∙ number));
        }
