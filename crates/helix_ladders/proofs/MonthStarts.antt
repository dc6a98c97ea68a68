-- The month starts next to a day of the calendar.
use Rattle.std.proofs.Common.{◌≡◌, ◌≢◌, ℕ, ◌+◌, ◌-◌, ◌<◌, ◌≤◌, ◌⊎◌, inl, inr, ℤ, pos, ◌≤ℤ◌, refl, ap, subst, arith}
use Rattle.std.proofs.Common.{⊎_elim}
use Rattle.std.proofs.lemmas.Bool.{cases_lt, cases_order}
use Rattle.std.proofs.lemmas.Int.{ints}
use Rattle.jiff_core.proofs.CalendarLemmas.{days_in_month_bounds}
use Rattle.helix_ladders.specs.Calendar.{sum_up_to, IsDate, days_of_year, days_of_month, year_start, month_start, day_number, days_of_calendar, midnight}
use Rattle.helix_ladders.specs.Grids.{IsMonthStart, IsYearStart}
use Rattle.helix_ladders.specs.Scale.{IsLeast, IsGreatest}
use Rattle.helix_ladders.proofs.Totals.{sum_up_to-zero, sum_up_to-suc, sum_up_to-le, sum_up_to-next}
use Rattle.helix_ladders.proofs.GregorianYears.{days_of_months, end_of_calendar}
use Rattle.helix_ladders.proofs.CivilDates.{month_end, year_end, in_calendar}
use Rattle.helix_ladders.proofs.JiffDates.{same_month}

pub month_bound : (year month : ℕ) → 1 ≤ month → month ≤ 12
    → (28 ≤ days_of_month year month) × (days_of_month year month ≤ 31)
month_bound year month from_1 to_12 = (
  omega (arith, days_in_month_bounds (pos year) month, same_month year month from_1 to_12),
  omega (arith, days_in_month_bounds (pos year) month, same_month year month from_1 to_12),
)

-- the first day of a month is a date
pub first_of_month : (year month : ℕ) → 1 ≤ year → year ≤ 9999 → 1 ≤ month → month ≤ 12 → IsDate year month 1
first_of_month year month year_from_1 year_to_9999 from_1 to_12 =
    record {
      year_from_1 = year_from_1;
      year_to_9999 = year_to_9999;
      month_from_1 = from_1;
      month_to_12 = to_12;
      day_from_1 = omega arith;
      day_to_last = omega (arith, month_bound year month from_1 to_12);
    }

-- no month begins after the calendar's last day
pub no_month_after : (day : ℕ) (v : ℤ) → days_of_calendar ≤ day → midnight day ≤ℤ v → IsMonthStart v → ⊥
no_month_after day v past reached (year, month, date, start) = omega (arith, ints, in_calendar year month 1 date)

-- a new year begins with its first day
pub new_year : (year : ℕ) → day_number (year + 1) 1 1 ≡ year_start (year + 1)
new_year year = omega (arith, sum_up_to-zero (days_of_month (year + 1)))

module _ (year month number : ℕ) (date : IsDate year month number) where
  -- a month that begins after a day of this one begins after all of them
  later_month : (y m : ℕ) → IsDate y m 1 → number ≢ 1 → day_number year month number ≤ day_number y m 1
      → month_start year month + days_of_month year month ≤ day_number y m 1
  later_month y m other no_first reached =
      elim (cases_order y year) [
        | inl same ↦
            let same_start : day_number y m 1 ≡ month_start year m = subst (λ k. day_number y m 1 ≡ month_start k m)
            same (omega arith) in
            ⊎_elim {A = month < m} {B = m ≤ month}
            (λ after. omega (
              arith,
              sum_up_to-next (days_of_month year) month date.month_from_1,
              sum_up_to-le (days_of_month year) (month + 1 - 1) (m - 1) (omega arith),
            ))
            (λ before. absurd (omega (
              arith,
              date.day_from_1,
              sum_up_to-le (days_of_month year) (m - 1) (month - 1) (omega arith),
            )))
            (cases_lt month m)
        | inr (inl before) ↦
            absurd
            (omega (
              arith,
              year_end y m 1 other,
              date.day_from_1,
              sum_up_to-next days_of_year y other.year_from_1,
              sum_up_to-le days_of_year (y + 1 - 1) (year - 1) (omega arith),
            ))
        | inr (inr after) ↦
            omega (
              arith,
              month_end year month number date,
              sum_up_to-next days_of_year year date.year_from_1,
              sum_up_to-le days_of_year (year + 1 - 1) (y - 1) (omega arith),
            )
      ]

  -- the months end with the year
  december_ends : 12 ≤ month → month_start year month + days_of_month year month ≡ year_start (year + 1)
  december_ends last =
      let twelve : 12 ≡ month + 1 - 1 = omega (arith, date.month_to_12) in
      let whole : sum_up_to (days_of_month year) (month + 1 - 1)
      ≡ days_of_year year = subst (λ n. sum_up_to (days_of_month year) n ≡ days_of_year year) twelve
      (days_of_months year) in
      omega (
        arith,
        whole,
        sum_up_to-next (days_of_month year) month date.month_from_1,
        sum_up_to-next days_of_year year date.year_from_1,
      )

  -- and the years with the calendar
  year_ends : year_start (year + 1) < days_of_calendar → year < 9999
  year_ends within =
      ⊎_elim {A = year < 9999} {B = 9999 ≤ year} (λ inside. inside)
      (λ last.
      let end : 9999 ≡ year + 1 - 1 = omega (arith, date.year_to_9999) in
      absurd (omega (arith, subst (λ n. sum_up_to days_of_year n ≡ days_of_calendar) end end_of_calendar)))
      (cases_lt year 9999)

  -- the days of this month are followed by the first of the next
  pub next_month : month_start year month + days_of_month year month < days_of_calendar
      → IsMonthStart (midnight (month_start year month + days_of_month year month))
  next_month within =
      ⊎_elim {A = month < 12} {B = 12 ≤ month}
      (λ inside.
      let start : month_start year month + days_of_month year month ≡ day_number year (month + 1) 1 = omega (
        arith,
        sum_up_to-next (days_of_month year) month date.month_from_1,
      ) in (
        year,
        month + 1,
        first_of_month year (month + 1) date.year_from_1 date.year_to_9999 (omega arith) (omega arith),
        ap midnight start,
      ))
      (λ last.
      let start : month_start year month + days_of_month year month ≡ day_number (year + 1) 1 1 = omega (
        arith,
        december_ends last,
        new_year year,
      ) in (
        year + 1,
        1,
        first_of_month (year + 1) 1 (omega arith) (omega (
          arith,
          year_ends (omega (arith, december_ends last)),
        )) (omega arith) (omega arith),
        ap midnight start,
      ))
      (cases_lt month 12)

  -- the first moment of the next month is the least month start from this day on, where this one isn't it
  pub next_month_least : (day next : ℕ) → day_number year month number ≡ day → number ≢ 1
      → next ≡ day + (days_of_month year month + 1 - number) → next < days_of_calendar
      → IsLeast (λ v. IsMonthStart v × (midnight day ≤ℤ v)) (midnight next)
  next_month_least day next is no_first step within =
      let there : next ≡ month_start year month + days_of_month year month = omega (
        arith,
        date.day_from_1,
        date.day_to_last,
      ) in
      record {
        has = (rw there (next_month (omega arith)), omega (arith, ints, date.day_to_last));
        least = λ w h. least_of w h.0 h.1;
      }
    where
      least_of : (w : ℤ) → IsMonthStart w → midnight day ≤ℤ w → midnight next ≤ℤ w
      least_of w (y, m, other, start) reached =
          rw start (omega (
            arith,
            ints,
            later_month y m other no_first (omega (arith, ints, rw start at reached)),
            date.day_from_1,
            date.day_to_last,
          ))

  -- and there is none where the calendar ends before
  pub no_next_month : (day : ℕ) (v : ℤ) → day_number year month number ≡ day → number ≢ 1
      → days_of_calendar ≤ day + (days_of_month year month + 1 - number) → midnight day ≤ℤ v → IsMonthStart v → ⊥
  no_next_month day v is no_first past reached (y, m, other, start) =
      omega (
        arith,
        later_month y m other no_first (omega (arith, ints, rw start at reached)),
        in_calendar y m 1 other,
        date.day_from_1,
        date.day_to_last,
      )

  -- a month that has begun by a day of this one has begun by this one's first day
  earlier_month : (y m : ℕ) → IsDate y m 1 → day_number y m 1 ≤ day_number year month number
      → day_number y m 1 ≤ month_start year month
  earlier_month y m other begun =
      elim (cases_order y year) [
        | inl same ↦
            let same_start : day_number y m 1 ≡ month_start year m = subst (λ k. day_number y m 1 ≡ month_start k m)
            same (omega arith) in
            ⊎_elim {A = month < m} {B = m ≤ month}
            (λ after. absurd (omega (
              arith,
              date.day_to_last,
              date.day_from_1,
              sum_up_to-next (days_of_month year) month date.month_from_1,
              sum_up_to-le (days_of_month year) (month + 1 - 1) (m - 1) (omega arith),
            )))
            (λ before. omega (arith, sum_up_to-le (days_of_month year) (m - 1) (month - 1) (omega arith)))
            (cases_lt month m)
        | inr (inl before) ↦
            omega (
              arith,
              year_end y m 1 other,
              sum_up_to-next days_of_year y other.year_from_1,
              sum_up_to-le days_of_year (y + 1 - 1) (year - 1) (omega arith),
            )
        | inr (inr after) ↦
            absurd
            (omega (
              arith,
              month_end year month number date,
              date.day_to_last,
              date.day_from_1,
              sum_up_to-next days_of_year year date.year_from_1,
              sum_up_to-le days_of_year (year + 1 - 1) (y - 1) (omega arith),
            ))
      ]

  -- this month is the last that has begun by a day of it
  pub month_start_greatest : (day first : ℕ) → day_number year month number ≡ day → first ≡ day + 1 - number
      → IsGreatest (λ v. IsMonthStart v × (v ≤ℤ midnight day)) (midnight first)
  month_start_greatest day first is back =
      let there : first ≡ day_number year month 1 = omega (arith, date.day_from_1) in
      record {
        has = (
          (
            year,
            month,
            first_of_month year month date.year_from_1 date.year_to_9999 date.month_from_1
                date.month_to_12,
            ap midnight there,
          ),
          omega (arith, ints, date.day_from_1),
        );
        greatest = λ w h. greatest_of w h.0 h.1;
      }
    where
      greatest_of : (w : ℤ) → IsMonthStart w → w ≤ℤ midnight day → w ≤ℤ midnight first
      greatest_of w (y, m, other, start) within =
          rw start (omega (
            arith,
            ints,
            date.day_from_1,
            earlier_month y m other (omega (arith, ints, rw start at within)),
          ))

-- what begins from the first day on that isn't begun before a moment begins from that moment on
pub month_start_reached : (day : ℕ) (from v : ℤ) → ((d : ℕ) → from ≤ℤ midnight d → day ≤ d) → from ≤ℤ v → IsMonthStart v
    → midnight day ≤ℤ v
month_start_reached day from v least reached (year, month, date, start) =
    rw start (omega (arith, ints, least (day_number year month 1) (rw start at reached)))
