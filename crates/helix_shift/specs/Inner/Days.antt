-- Working days by their number, and what days are shifted to.
use Rattle.std.specs.Prelude.{◌≡◌, true, ℕ, ◌<◌, ℤ, pos, ◌+ℤ◌, ◌*ℤ◌, ◌<ℤ◌, ◌≤ℤ◌}
use Rattle.helix_ladders.specs.Calendar.{days_of_calendar, midnight}
use Rattle.helix_ladders.specs.Shift.{is_working_day, working_days_before, shifted_months, shifted_working_days}
use Rattle.helix_ladders.specs.declared.offset.Offset.{Offset}
use Rattle.helix_ladders.specs.declared.offset.Offset.TheVariants.{Plain, Months, Years, WorkingDays}

-- the working day before which so many lie
pub record IsWorkingDayAt (count day : ℕ) : Type 0 where
  pub working : is_working_day day ≡ true
  pub before : working_days_before day ≡ count

-- what each moment of a day is shifted to; by units it is the first one
abbrev pub shifted_day : Offset → ℕ → ℤ
shifted_day (Plain units) day = midnight day +ℤ units
shifted_day (Months count) day = shifted_months count day
shifted_day (Years count) day = shifted_months (pos 12 *ℤ count) day
shifted_day (WorkingDays count) day = shifted_working_days count day

-- the first day of the calendar that is shifted to the target or beyond
pub record IsFirstDay (offset : Offset) (target : ℤ) (day : ℕ) : Type 0 where
  pub in_calendar : day < days_of_calendar
  pub reached : target ≤ℤ shifted_day offset day
  pub first : (earlier : ℕ) → earlier < day → shifted_day offset earlier <ℤ target

-- no day of the calendar is shifted so far
abbrev pub IsOutOfReach : Offset → ℤ → Type 0
IsOutOfReach offset target = (day : ℕ) → day < days_of_calendar → shifted_day offset day <ℤ target
