-- The civil dates of jiff and their day numbers, in the calendar of this crate.
use Rattle.std.proofs.Common.{◌≡◌, ℕ, zero, suc, ◌+◌, ◌-◌, ◌≤◌, ℤ, pos, negsuc, ◌+ℤ◌, ◌-ℤ◌, ◌≤ℤ◌, refl, subst, arith}
use Rattle.std.specs.Prelude.{min, unsigned_abs}
use Rattle.std.proofs.lemmas.Int.{by_lt_z}
use Rattle.jiff_core.specs.declared.civil.date.Date.{Date}
use Rattle.jiff_core.specs.Calendar.{days_in_month, days_of_months, day_count, days_from_civil}
use Rattle.jiff_core.specs.Date.{epoch_day}
use Rattle.jiff_core.proofs.SignedLemmas.{signed_arith}
use Rattle.jiff_core.proofs.MarchLemmas.{day_count-early}
use Rattle.jiff_core.proofs.CalendarLemmas.{days_of_months-zero, days_of_months_more, day_count-day_of_year, day_count-next_year, day_count-lt_year, days_from_civil-day_count}
use Rattle.jiff_core.proofs.DateLemmas.{civil}
use Rattle.helix_ladders.specs.Calendar.{sum_up_to, IsDate, days_of_year, days_of_month, day_number, year_of, month_of, day_of_month}
use Rattle.helix_ladders.proofs.Totals.{sum_up_to-zero, sum_up_to-suc}
use Rattle.helix_ladders.proofs.CivilDates.{year_of-day_number, month_of-day_number, day_of_month-day_number}
use borrow.Author.Differences.{up, down}

-- months have the same lengths
pub same_month : (year month : ℕ) → 1 ≤ month → month ≤ 12 → days_in_month (pos year) month ≡ days_of_month year month
same_month year zero from_1 to_12 = absurd (omega arith)
same_month year (suc zero) from_1 to_12 = refl
same_month year (suc (suc zero)) from_1 to_12 = refl
same_month year (suc (suc (suc zero))) from_1 to_12 = refl
same_month year (suc (suc (suc (suc zero)))) from_1 to_12 = refl
same_month year (suc (suc (suc (suc (suc zero))))) from_1 to_12 = refl
same_month year (suc (suc (suc (suc (suc (suc zero)))))) from_1 to_12 = refl
same_month year (suc (suc (suc (suc (suc (suc (suc zero))))))) from_1 to_12 = refl
same_month year (suc (suc (suc (suc (suc (suc (suc (suc zero)))))))) from_1 to_12 = refl
same_month year (suc (suc (suc (suc (suc (suc (suc (suc (suc zero))))))))) from_1 to_12 = refl
same_month year (suc (suc (suc (suc (suc (suc (suc (suc (suc (suc zero)))))))))) from_1 to_12 = refl
same_month year (suc (suc (suc (suc (suc (suc (suc (suc (suc (suc (suc zero))))))))))) from_1 to_12 = refl
same_month year (suc (suc (suc (suc (suc (suc (suc (suc (suc (suc (suc (suc zero)))))))))))) from_1 to_12 = refl
same_month year (suc (suc (suc (suc (suc (suc (suc (suc (suc (suc (suc (suc (suc month))))))))))))) from_1 to_12 =
    absurd (omega arith)

same_months : (year months : ℕ) → months ≤ 12 → days_of_months (pos year) months ≡ sum_up_to (days_of_month year) months
same_months year zero to_12 = omega (arith, days_of_months-zero (pos year), sum_up_to-zero (days_of_month year))
same_months year (suc months) to_12 =
    let before : suc months - 1 ≡ months = omega arith in
    omega (
      arith,
      rw before at (days_of_months_more (pos year) (suc months) (omega arith)),
      same_month year (suc months) (omega arith) to_12,
      same_months year months (omega arith),
      sum_up_to-suc (days_of_month year) months,
    )

-- years begin at the same days; jiff counts from the year -10000
same_years : (years : ℕ) → day_count (pos (suc years)) 1 1 ≡ 3652791 + sum_up_to days_of_year years
same_years zero = omega (
  arith,
  day_count-early (pos 1) 10000 1 1 refl (omega arith) (omega arith) (omega arith),
  sum_up_to-zero days_of_year,
)
same_years (suc years) =
    omega (
      arith,
      day_count-next_year (pos (suc years)) (pos (suc (suc years))) (omega (arith, signed_arith)) (omega (
        arith,
        signed_arith,
      )),
      same_years years,
      sum_up_to-suc days_of_year years,
    )

same_day : (year month day : ℕ) → IsDate year month day
    → day_count (pos year) month day ≡ 3652791 + day_number year month day
same_day year month day date =
    let this : suc (year - 1) ≡ year = omega (arith, date.year_from_1) in
    omega (
      arith,
      day_count-day_of_year (pos year) month day date.day_from_1,
      rw this at (same_years (year - 1)),
      same_months year (month - 1) (omega (arith, date.month_to_12)),
      date.day_from_1,
    )

-- the day number of jiff counts from 1970-01-01
pub number_of_date : (year month day : ℕ) → IsDate year month day
    → up (days_from_civil (pos year) month day) + 719162
    ≡ down (days_from_civil (pos year) month day) + day_number year month day
number_of_date year month day date = omega (
  arith,
  days_from_civil-day_count (pos year) month day,
  same_day year month day date,
)

-- from the first day of the calendar on, jiff's years are not negative
from_year_1 : (d : Date) (day : ℕ) → epoch_day d ≡ pos day -ℤ pos 719162 → pos 1 ≤ℤ d.year
from_year_1 d day number =
    by_lt_z d.year (pos 1)
    (λ before.
    absurd
    (omega (
      arith,
      signed_arith,
      day_count-lt_year d.year d.month d.day (pos 1) 1 1 (civil d) (omega arith) before,
      same_years 0,
      sum_up_to-zero days_of_year,
      days_from_civil-day_count d.year d.month d.day,
    )))
    (λ from_1. from_1)

-- what the parts of a date of jiff are
pub record ArePartsOf (y m d day : ℕ) : Type 0 where
  pub date : IsDate y m d
  pub number : day_number y m d ≡ day
  pub year : year_of day ≡ y
  pub month : month_of day ≡ m
  pub of_month : day_of_month day ≡ d

parts_of_year : (d : Date) (year day : ℕ) → d.year ≡ pos year → 1 ≤ year → epoch_day d ≡ pos day -ℤ pos 719162
    → ArePartsOf year d.month d.day day
parts_of_year d year day of_year from_1 number =
    let last : d.day ≤ days_in_month (pos year) d.month = subst (λ y. d.day ≤ days_in_month y d.month) of_year
    d.day_in.1 in
    let date : IsDate year d.month d.day =
    record {
      year_from_1 = from_1;
      year_to_9999 = omega (arith, signed_arith, d.year_in);
      month_from_1 = d.month_in.0;
      month_to_12 = d.month_in.1;
      day_from_1 = d.day_in.0;
      day_to_last = omega (arith, last, same_month year d.month d.month_in.0 d.month_in.1);
    } in
    let epoch : days_from_civil (pos year) d.month d.day
    ≡ pos day -ℤ pos 719162 = subst (λ y. days_from_civil y d.month d.day ≡ pos day -ℤ pos 719162) of_year number in
    let is : day_number year d.month d.day ≡ day = omega (
      arith,
      signed_arith,
      number_of_date year d.month d.day date,
      epoch,
    ) in
    record {
      date = date;
      number = is;
      year = subst (λ n. year_of n ≡ year) is (year_of-day_number year d.month d.day date);
      month = subst (λ n. month_of n ≡ d.month) is (month_of-day_number year d.month d.day date);
      of_month = subst (λ n. day_of_month n ≡ d.day) is (day_of_month-day_number year d.month d.day date);
    }

-- so they are counted up from 1
pub positive_year : (d : Date) (day : ℕ) → epoch_day d ≡ pos day -ℤ pos 719162 → d.year ≡ pos (unsigned_abs d.year)
positive_year d day number = positive_is d.year (from_year_1 d day number)
  where
    positive_is : (z : ℤ) → pos 1 ≤ℤ z → z ≡ pos (unsigned_abs z)
    positive_is (pos n) from_1 = refl
    positive_is (negsuc n) from_1 = absurd (omega (arith, signed_arith))

pub parts_of_date : (d : Date) (year month number day : ℕ) → year ≡ unsigned_abs d.year → month ≡ d.month
    → number ≡ d.day → epoch_day d ≡ pos day -ℤ pos 719162
    → ArePartsOf year month number day
parts_of_date d year month number day of_year of_month of_day is =
    let positive : d.year ≡ pos year = rw of_year (positive_year d day is) in
    rw (of_month, of_day) (parts_of_year d year day positive (omega (arith, signed_arith, from_year_1 d day is)) is)

-- the day number that jiff gives a date
pub number_of : (d : Date) (year month day : ℕ) (z : ℤ) → IsDate year month day → d.year ≡ pos year → d.month ≡ month
    → d.day ≡ min day (days_in_month (pos year) month)
    → z ≡ epoch_day d +ℤ pos 719162 → z ≡ pos (day_number year month day)
number_of d year month day z date of_year of_month of_day is =
    let within : d.day ≡ day = omega (
      arith,
      date.day_to_last,
      same_month year month date.month_from_1 date.month_to_12,
    ) in
    let epoch : epoch_day d ≡ days_from_civil (pos year) month day = rw (of_year, of_month, within) refl in
    omega (arith, signed_arith, number_of_date year month day date)
