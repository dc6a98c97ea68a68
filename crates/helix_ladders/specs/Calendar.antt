-- The proleptic Gregorian calendar (ISO 8601) for the years 1 to 9999. Days are numbered from 0 at 0001-01-01, a
-- Monday, and moments are milliseconds from its midnight.
use Rattle.std.specs.Prelude.{ℕ, zero, suc, ◌+◌, ◌-◌, ◌*◌, ◌/◌, ◌%◌, min, ◌≤◌, ℤ, pos, negsuc, ◌≤ℤ◌, Bool, not, ◌&&◌, ◌||◌, ◌==◌, nat_le, if◌then◌else◌, Option, None, Some, unwrap_or, List, [], ◌∷◌, slice_index}

-- f 1, f 2 and so on up to f n, added
unfoldable pub sum_up_to : (ℕ → ℕ) → ℕ → ℕ
sum_up_to f zero = 0
sum_up_to f (suc n) = sum_up_to f n + f (suc n)

-- the last number below a limit that passes a test
unfoldable pub last_below : (ℕ → Bool) → ℕ → Option ℕ
last_below test zero = None
last_below test (suc n) = if test n then Some n else last_below test n

-- a leap year: each fourth one, of the centuries only each fourth
abbrev pub is_leap_year : ℕ → Bool
is_leap_year year = (year % 4 == 0) && (not (year % 100 == 0) || (year % 400 == 0))

-- the length of a year
abbrev pub days_of_year : ℕ → ℕ
days_of_year year = if is_leap_year year then 366 else 365

-- the lengths of the months of a year, from January on
abbrev pub month_lengths : ℕ → List ℕ
month_lengths year =
    31 ∷ (if is_leap_year year then 29 else 28) ∷ 31 ∷ 30 ∷ 31 ∷ 30 ∷ 31 ∷ 31 ∷ 30 ∷ 31 ∷ 30 ∷ 31 ∷ []

-- the length of a month, counted from 1
abbrev pub days_of_month : ℕ → ℕ → ℕ
days_of_month year month = slice_index (month_lengths year) (month - 1)

-- a date of the calendar
pub record IsDate (year month day : ℕ) : Type 0 where
  pub year_from_1 : 1 ≤ year
  pub year_to_9999 : year ≤ 9999
  pub month_from_1 : 1 ≤ month
  pub month_to_12 : month ≤ 12
  pub day_from_1 : 1 ≤ day
  pub day_to_last : day ≤ days_of_month year month

-- the number of 1 January: the days of all years before
abbrev pub year_start : ℕ → ℕ
year_start year = sum_up_to days_of_year (year - 1)

-- the number of the first day of a month: the days of all years and months before
abbrev pub month_start : ℕ → ℕ → ℕ
month_start year month = year_start year + sum_up_to (days_of_month year) (month - 1)

-- the number of a date's day
abbrev pub day_number : ℕ → ℕ → ℕ → ℕ
day_number year month day = month_start year month + (day - 1)

-- as many days are in the years 1 to 9999
abbrev pub days_of_calendar : ℕ
days_of_calendar = 3652059

-- the year of a day: the last one that has begun
abbrev pub year_of : ℕ → ℕ
year_of day = unwrap_or (last_below (λ year. nat_le (year_start year) day) 10000) 1

-- the month of a day: the last one of its year that has begun
abbrev pub month_of : ℕ → ℕ
month_of day = unwrap_or (last_below (λ month. nat_le (month_start (year_of day) month) day) 13) 1

-- the number of a day in its month, from 1
abbrev pub day_of_month : ℕ → ℕ
day_of_month day = day - month_start (year_of day) (month_of day) + 1

-- the milliseconds of a day
abbrev pub millis_of_day : ℕ
millis_of_day = 86400000

-- the last millisecond of the year 9999
abbrev pub last_moment : ℕ
last_moment = 315537897599999

-- a millisecond of the years 1 to 9999
abbrev pub IsMoment : ℤ → Type 0
IsMoment at = (pos 0 ≤ℤ at) × (at ≤ℤ pos last_moment)

-- the day of a moment; before all of them lies the first day, after all of them the last one
abbrev pub day_of : ℤ → ℕ
day_of (pos millis) = min (millis / millis_of_day) (days_of_calendar - 1)
day_of (negsuc below) = 0

-- the first millisecond of a day
abbrev pub midnight : ℕ → ℤ
midnight day = pos (millis_of_day * day)
