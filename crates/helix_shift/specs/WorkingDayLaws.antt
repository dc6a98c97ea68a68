-- Working days by arithmetic, and where a shift by working days leads.
use Rattle.std.proofs.Common.{◌≡◌, ℕ, zero, suc, ◌+◌, ◌-◌, ◌*◌, ◌/◌, ◌%◌, ◌<◌, ◌≤◌, min, ℤ, pos, negsuc, ◌≤ℤ◌, Some, None, true, cond, ap, sym, subst, ◌∙◌, arith}
use Rattle.std.proofs.Common.{⊎_elim}
use Rattle.std.specs.Prelude.{nat_lt, neg_ℤ}
use Rattle.std.specs.Option.{option_map_or}
use Rattle.std.proofs.lemmas.Bool.{cases_lt}
use Rattle.std.proofs.lemmas.Bool.Decides.{nat_tests}
use Rattle.std.proofs.lemmas.Int.{ints}
use Rattle.helix_ladders.specs.Calendar.{last_below, days_of_calendar, midnight}
use Rattle.helix_ladders.specs.Shift.{after_all, before_all, working_days_before, is_working_day_after, is_working_day_ahead, shifted_working_days}
use Rattle.helix_shift.specs.Inner.Days.{IsWorkingDayAt}
use Rattle.helix_ladders.proofs.WorkingDays.{working_days-zero, working_days-suc, working_days-le, counts, found_later, none_later, found_earlier, none_earlier}

week_step : (day before : ℕ) → before ≡ 5 * (day / 7) + min (day % 7) 5
    → before + cond (nat_lt (day % 7) 5) 1 0 ≡ 5 * (suc day / 7) + min (suc day % 7) 5
week_step day before is = grind (arith, nat_tests)

-- five in each whole week before a day, and those of its own week
pub working_days_of_weeks : (day : ℕ) → working_days_before day ≡ 5 * (day / 7) + min (day % 7) 5
working_days_of_weeks zero = omega (arith, working_days-zero)
working_days_of_weeks (suc day) =
    working_days-suc day ∙ week_step day (working_days_before day) (working_days_of_weeks day)

day_of_week : (count day : ℕ) → day ≡ 7 * (count / 5) + count % 5 → nat_lt (day % 7) 5 ≡ true
day_of_week count day is = grind (arith, nat_tests)

-- there is a working day with each number of them before it
pub working_day_at : (count day : ℕ) → day ≡ 7 * (count / 5) + count % 5 → IsWorkingDayAt count day
working_day_at count day is = record {
  working = day_of_week count day is;
  before = omega (arith, working_days_of_weeks day);
}

-- the working day so many working days after a day, or the end of the calendar
pub later_is : (count day later : ℕ) → 1 ≤ count → IsWorkingDayAt (working_days_before (day + 1) + (count - 1)) later
    → shifted_working_days (pos count) day ≡ midnight (min later days_of_calendar)
later_is zero day later some at = absurd (omega arith)
later_is (suc n) day later some at =
    ⊎_elim {A = later < days_of_calendar} {B = days_of_calendar ≤ later}
    (λ within.
    let found : last_below (is_working_day_after (suc n) day) days_of_calendar ≡ Some later =
    found_later (suc n) day days_of_calendar later above within at.working (omega (
      arith,
      counts later at.working,
      at.before,
    )) in
    let least : later ≡ min later days_of_calendar = omega arith in
    ap (λ o. option_map_or midnight o after_all) found ∙ ap midnight least)
    (λ past.
    let none : last_below (is_working_day_after (suc n) day) days_of_calendar ≡ None =
    none_later (suc n) day days_of_calendar (omega (arith, at.before, working_days-le days_of_calendar later past)) in
    let least : days_of_calendar ≡ min later days_of_calendar = omega arith in
    ap (λ o. option_map_or midnight o after_all) none ∙ ap midnight least)
    (cases_lt later days_of_calendar)
  where
    above : day < later
    above =
        ⊎_elim {A = day < later} {B = later ≤ day} (λ is. is)
        (λ not_above. absurd (omega (
          arith,
          counts later at.working,
          at.before,
          working_days-le (later + 1) (day + 1) (omega arith),
        )))
        (cases_lt day later)

-- the working day so many working days before a day
pub earlier_is : (count day earlier : ℕ) → 1 ≤ count → day < days_of_calendar → count ≤ working_days_before day
    → IsWorkingDayAt (working_days_before day - count) earlier
    → shifted_working_days (neg_ℤ (pos count)) day ≡ midnight earlier
earlier_is zero day earlier some within enough at = absurd (omega arith)
earlier_is (suc n) day earlier some within enough at =
    let found : last_below (is_working_day_ahead (suc n) day) days_of_calendar ≡ Some earlier =
    found_earlier (suc n) day days_of_calendar earlier below within at.working (omega (arith, at.before)) in
    ap (λ o. option_map_or midnight o before_all) found
  where
    below : earlier < day
    below =
        ⊎_elim {A = earlier < day} {B = day ≤ earlier} (λ is. is)
        (λ not_below. absurd (omega (arith, at.before, working_days-le day earlier not_below)))
        (cases_lt earlier day)

-- or the beginning of the calendar
pub no_earlier : (count day : ℕ) → working_days_before day < count
    → shifted_working_days (neg_ℤ (pos count)) day ≡ before_all
no_earlier zero day short = absurd (omega arith)
no_earlier (suc n) day short =
    let none : last_below (is_working_day_ahead (suc n) day) days_of_calendar ≡ None =
    none_earlier (suc n) day days_of_calendar short in
    ap (λ o. option_map_or midnight o before_all) none

-- the working day before which so many lie
working_day : ℕ → ℕ
working_day count = 7 * (count / 5) + count % 5

at_count : (count : ℕ) → IsWorkingDayAt count (working_day count)
unfolding working_day
at_count count = working_day_at count (working_day count) (omega arith)

-- where a day leads, by its count
later_by_count : (n day : ℕ) → shifted_working_days (pos (suc n)) day
    ≡ midnight (min (working_day (working_days_before (day + 1) + n)) days_of_calendar)
later_by_count n day =
    let same : working_days_before (day + 1) + (suc n - 1) ≡ working_days_before (day + 1) + n = omega arith in
    later_is (suc n) day _ (omega arith) (subst (λ count. IsWorkingDayAt count (working_day
    (working_days_before (day + 1) + n))) (sym same) (at_count (working_days_before (day + 1) + n)))

earlier_by_count : (n day : ℕ) → day < days_of_calendar → suc n ≤ working_days_before day
    → shifted_working_days (negsuc n) day ≡ midnight (working_day (working_days_before day - suc n))
earlier_by_count n day within enough =
    earlier_is (suc n) day _ (omega arith) within enough (at_count (working_days_before day - suc n))

working_day-le : (m n : ℕ) → m ≤ n → working_day m ≤ working_day n
unfolding working_day
working_day-le m n below = omega arith

working_day-le_day : (count day : ℕ) → count < working_days_before day → working_day count < day
unfolding working_day
working_day-le_day count day below = omega (arith, working_days_of_weeks day)

-- no day is shifted before the calendar's beginning, or after its end
pub working_days_from : (n : ℤ) (day : ℕ) → day < days_of_calendar → before_all ≤ℤ shifted_working_days n day
working_days_from (pos zero) day within = omega (arith, ints)
working_days_from (pos (suc n)) day within = rw (later_by_count n day) (omega (arith, ints))
working_days_from (negsuc n) day within =
    ⊎_elim {A = working_days_before day < suc n} {B = suc n ≤ working_days_before day}
    (λ short. rw (no_earlier (suc n) day short) (omega (arith, ints)))
    (λ enough. rw (earlier_by_count n day within enough) (omega (arith, ints)))
    (cases_lt (working_days_before day) (suc n))

pub working_days_to : (n : ℤ) (day : ℕ) → day < days_of_calendar → shifted_working_days n day ≤ℤ after_all
working_days_to (pos zero) day within = omega (arith, ints)
working_days_to (pos (suc n)) day within = rw (later_by_count n day) (omega (arith, ints))
working_days_to (negsuc n) day within =
    ⊎_elim {A = working_days_before day < suc n} {B = suc n ≤ working_days_before day}
    (λ short. rw (no_earlier (suc n) day short) (omega (arith, ints)))
    (λ enough.
    rw (earlier_by_count n day within enough) (omega (
      arith,
      ints,
      working_day-le_day (working_days_before day - suc n) day (omega arith),
    )))
    (cases_lt (working_days_before day) (suc n))

-- a later day isn't shifted to an earlier one
pub working_days_rise : (n : ℤ) (a b : ℕ) → a ≤ b → b < days_of_calendar
    → shifted_working_days n a ≤ℤ shifted_working_days n b
working_days_rise (pos zero) a b below within = omega (arith, ints)
working_days_rise (pos (suc n)) a b below within =
    let rise : working_day (working_days_before (a + 1) + n) ≤ working_day (working_days_before (b + 1) + n) =
    working_day-le _ _ (omega (arith, working_days-le (a + 1) (b + 1) (omega arith))) in
    rw (later_by_count n a, later_by_count n b) (omega (arith, ints))
working_days_rise (negsuc n) a b below within =
    ⊎_elim {A = working_days_before a < suc n} {B = suc n ≤ working_days_before a}
    (λ short. rw (no_earlier (suc n) a short) (working_days_from (negsuc n) b within))
    (λ enough.
    let more : working_days_before a ≤ working_days_before b = working_days-le a b below in
    let rise : working_day (working_days_before a - suc n) ≤ working_day (working_days_before b - suc n) =
    working_day-le _ _ (omega arith) in
    rw (earlier_by_count n a (omega arith) enough, earlier_by_count n b within (omega arith)) (omega (arith, ints)))
    (cases_lt (working_days_before a) (suc n))
