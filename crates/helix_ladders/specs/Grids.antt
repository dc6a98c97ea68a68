-- The ladders of grids: the powers of ten for numbers, and the units of time for moments. Each coarser grid is a
-- part of each finer one.
use Rattle.std.specs.Prelude.{◌≡◌, ℕ, ◌%◌, ◌^◌, ℤ, unsigned_abs, MatchBool, nat_lt, ◌==◌, List, [], ◌∷◌, slice_index}
use Rattle.helix_ladders.specs.Calendar.{IsDate, day_number, midnight}

-- a whole number is a multiple of another
abbrev pub IsMultipleOf : ℕ → ℤ → Type 0
IsMultipleOf step z = unsigned_abs z % step ≡ 0

-- the sixteen grids of numbers, levels 0 to 15: multiples of 10^-15, of 10^-14 and so on up to 1
abbrev pub IsOnNumberGrid : ℕ → ℤ → Type 0
IsOnNumberGrid level units = IsMultipleOf (10 ^ level) units

-- the midnight that begins the first day of a month
abbrev pub IsMonthStart : ℤ → Type 0
IsMonthStart at = (year : ℕ) × (month : ℕ) × IsDate year month 1 × (at ≡ midnight (day_number year month 1))

-- the midnight that begins 1 January of a year
abbrev pub IsYearStart : ℤ → Type 0
IsYearStart at = (year : ℕ) × IsDate year 1 1 × (at ≡ midnight (day_number year 1 1))

-- a millisecond, a second, a minute, an hour and a day, in milliseconds
abbrev pub units_of_time : List ℕ
units_of_time = 1 ∷ 1000 ∷ 60000 ∷ 3600000 ∷ 86400000 ∷ []

-- the seven grids of moments, levels 0 to 6: multiples of a unit of time, month starts, year starts
abbrev pub IsOnMomentGrid : ℕ → ℤ → Type 0
IsOnMomentGrid level at =
    MatchBool (nat_lt level 5) (IsMultipleOf (slice_index units_of_time level) at)
    (MatchBool (level == 5) (IsMonthStart at) (IsYearStart at))
