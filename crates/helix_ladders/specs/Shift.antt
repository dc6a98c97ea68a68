-- Where a shifted value lies: a whole number without a bound.
use Rattle.std.specs.Prelude.{ℕ, zero, suc, ◌+◌, ◌-◌, ◌*◌, ◌/◌, ◌%◌, min, ℤ, pos, negsuc, ◌+ℤ◌, ◌*ℤ◌, Bool, ◌&&◌, ◌==◌, nat_lt, if◌then◌else◌}
use Rattle.std.specs.Prelude.{FitsSigned}
use Rattle.std.specs.Int.{w128}
use Rattle.std.specs.Option.{option_map_or}
use Rattle.helix_ladders.specs.declared.offset.Offset.{Offset}
use Rattle.helix_ladders.specs.declared.offset.Offset.TheVariants.{Plain, Months, Years, WorkingDays}
use Rattle.helix_ladders.specs.Calendar.{last_below, days_of_calendar, year_of, month_of, day_of_month, days_of_month, day_number, day_of, midnight}

-- the moment that a day after 9999-12-31 is given: the millisecond after the last moment
abbrev pub after_all : ℤ
after_all = midnight days_of_calendar

-- the moment that a day before 0001-01-01 is given: the millisecond before the first moment
abbrev pub before_all : ℤ
before_all = negsuc 0

-- months are counted from 0 at January of the year 1
abbrev pub month_index : ℕ → ℕ
month_index day = 12 * (year_of day - 1) + (month_of day - 1)

-- the day with this number in the month, or the month's last day where it is shorter
abbrev pub day_in_month : ℕ → ℕ → ℕ
day_in_month index day =
    let year = index / 12 + 1 in
    let month = index % 12 + 1 in
    day_number year month (min day (days_of_month year month))

-- the midnight of that day, the months counted from January of the year 1, or what is outside of the calendar
abbrev pub midnight_in_month : ℤ → ℕ → ℤ
midnight_in_month (pos index) day = if nat_lt index (12 * 9999) then midnight (day_in_month index day) else after_all
midnight_in_month (negsuc below) day = before_all

-- the day of the same number `months` months later
abbrev pub shifted_months : ℤ → ℕ → ℤ
shifted_months months day = midnight_in_month (pos (month_index day) +ℤ months) (day_of_month day)

-- from Monday to Friday: day 0 is a Monday
abbrev pub is_working_day : ℕ → Bool
is_working_day day = nat_lt (day % 7) 5

-- how many of the days before this one are working days
unfoldable pub working_days_before : ℕ → ℕ
working_days_before zero = 0
working_days_before (suc day) = working_days_before day + (if is_working_day day then 1 else 0)

-- a working day for which the days after `day` up to it hold this many working days
abbrev pub is_working_day_after : ℕ → ℕ → ℕ → Bool
is_working_day_after count day later =
    nat_lt day later && is_working_day later
    && (working_days_before (later + 1) == working_days_before (day + 1) + count)

-- a working day for which the days from it up to the one before `day` hold this many working days
abbrev pub is_working_day_ahead : ℕ → ℕ → ℕ → Bool
is_working_day_ahead count day earlier =
    nat_lt earlier day && is_working_day earlier && (working_days_before earlier + count == working_days_before day)

-- the day that is n working days later or earlier, of which there is one at most
abbrev pub shifted_working_days : ℤ → ℕ → ℤ
shifted_working_days (pos zero) day = midnight day
shifted_working_days (pos (suc n)) day =
    option_map_or midnight (last_below (is_working_day_after (suc n) day) days_of_calendar) after_all
shifted_working_days (negsuc n) day = option_map_or midnight
    (last_below (is_working_day_ahead (suc n) day) days_of_calendar) before_all

-- a value shifted by an offset: a sum, or the first millisecond of the day that is so far from the value's day
abbrev pub shifted : Offset → ℤ → ℤ
shifted (Plain n) value = value +ℤ n
shifted (Months n) value = shifted_months n (day_of value)
shifted (Years n) value = shifted_months (pos 12 *ℤ n) (day_of value)
shifted (WorkingDays n) value = shifted_working_days n (day_of value)

-- the shift of a value that the program computes: a sum fits 128 bits
abbrev pub IsShiftable : Offset → ℤ → Type 0
IsShiftable (Plain n) value = FitsSigned w128 (value +ℤ n)
IsShiftable other value = Unit {0}
