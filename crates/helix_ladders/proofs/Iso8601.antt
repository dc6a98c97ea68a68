-- Known values of the Gregorian calendar (ISO 8601).
use Rattle.std.proofs.Common.{◌≡◌, refl}
use Rattle.helix_ladders.specs.Calendar.{days_of_month, sum_up_to, day_number}

-- 1900 has no 29 February, and 2000 and 2024 have one
pub february_1900 : days_of_month 1900 2 ≡ 28
february_1900 = refl

pub february_2000 : days_of_month 2000 2 ≡ 29
february_2000 = refl

pub february_2024 : days_of_month 2024 2 ≡ 29
february_2024 = refl

-- the first day of the calendar, and the last of its first leap year
pub first_day : day_number 1 1 1 ≡ 0
unfolding sum_up_to
first_day = refl

pub fourth_year : day_number 4 12 31 ≡ 1460
unfolding sum_up_to
fourth_year = refl
