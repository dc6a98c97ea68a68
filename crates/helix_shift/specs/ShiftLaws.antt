-- Where the days and the moments of the calendar are shifted to.
use Rattle.std.proofs.Common.{◌≡◌, ℕ, ◌<◌, ◌≤◌, ℤ, pos, negsuc, ◌≤ℤ◌, ◌*ℤ◌, refl, arith}
use Rattle.std.proofs.lemmas.Int.{ints}
use Rattle.helix_ladders.specs.Calendar.{days_of_calendar, day_of}
use Rattle.helix_ladders.specs.Shift.{after_all, before_all, shifted}
use Rattle.helix_ladders.specs.LadderLaws.{sum_rises}
use Rattle.helix_ladders.specs.declared.offset.Offset.{Offset}
use Rattle.helix_ladders.specs.declared.offset.Offset.TheVariants.{Plain, Months, Years, WorkingDays}
use Rattle.helix_shift.specs.DayOffset.{IsDayOffset}
use Rattle.helix_shift.specs.Inner.Days.{shifted_day}
use Rattle.helix_shift.specs.MonthLaws.{months_from, months_to, months_rise}
use Rattle.helix_shift.specs.WorkingDayLaws.{working_days_from, working_days_to, working_days_rise}

-- a moment is shifted as its day is
pub shifted_of_day : (offset : Offset) (v : ℤ) → IsDayOffset offset → shifted offset v ≡ shifted_day offset (day_of v)
shifted_of_day (Plain n) v is = absurd is
shifted_of_day (Months n) v is = refl
shifted_of_day (Years n) v is = refl
shifted_of_day (WorkingDays n) v is = refl

-- no day is shifted before the calendar's beginning, or after its end
pub shifted_day_from : (offset : Offset) (day : ℕ) → IsDayOffset offset → day < days_of_calendar
    → before_all ≤ℤ shifted_day offset day
shifted_day_from (Plain n) day is within = absurd is
shifted_day_from (Months n) day is within = months_from n day
shifted_day_from (Years n) day is within = months_from (pos 12 *ℤ n) day
shifted_day_from (WorkingDays n) day is within = working_days_from n day within

pub shifted_day_to : (offset : Offset) (day : ℕ) → IsDayOffset offset → day < days_of_calendar
    → shifted_day offset day ≤ℤ after_all
shifted_day_to (Plain n) day is within = absurd is
shifted_day_to (Months n) day is within = months_to n day
shifted_day_to (Years n) day is within = months_to (pos 12 *ℤ n) day
shifted_day_to (WorkingDays n) day is within = working_days_to n day within

-- a later day isn't shifted to an earlier one
pub shifted_day_rises : (offset : Offset) (a b : ℕ) → a ≤ b → b < days_of_calendar
    → shifted_day offset a ≤ℤ shifted_day offset b
shifted_day_rises (Plain n) a b below within = omega (arith, ints)
shifted_day_rises (Months n) a b below within = months_rise n a b below within
shifted_day_rises (Years n) a b below within = months_rise (pos 12 *ℤ n) a b below within
shifted_day_rises (WorkingDays n) a b below within = working_days_rise n a b below within

days_ordered : (v w : ℤ) → v ≤ℤ w → day_of v ≤ day_of w
days_ordered (pos v) (pos w) below = omega (arith, ints)
days_ordered (pos v) (negsuc w) below = absurd (omega (arith, ints))
days_ordered (negsuc v) w below = omega arith

day_within : (v : ℤ) → day_of v < days_of_calendar
day_within (pos v) = omega arith
day_within (negsuc v) = omega arith

-- a greater moment has no lesser result
pub shifted_rises : (offset : Offset) (v w : ℤ) → v ≤ℤ w → shifted offset v ≤ℤ shifted offset w
shifted_rises (Plain n) v w below = sum_rises n v w below
shifted_rises (Months n) v w below = months_rise n _ _ (days_ordered v w below) (day_within w)
shifted_rises (Years n) v w below = months_rise (pos 12 *ℤ n) _ _ (days_ordered v w below) (day_within w)
shifted_rises (WorkingDays n) v w below = working_days_rise n _ _ (days_ordered v w below) (day_within w)
