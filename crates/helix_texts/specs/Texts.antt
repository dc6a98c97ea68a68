-- The one written form of each value. Characters are code points: `-` is 45, `.` 46, `:` 58, `T` 84.
use Rattle.std.specs.Prelude.{ℕ, zero, suc, ◌+◌, ◌/◌, ◌%◌, ◌^◌, ℤ, pos, negsuc, unsigned_abs, Bool, true, false, ◌==◌, if◌then◌else◌, List, [], ◌∷◌, ◌++◌, codes, decimal}
use Rattle.helix_json.specs.Numbers.{minus_text, fraction_text}
use Rattle.helix_values.specs.declared.kind.Kind.{Kind}
use Rattle.helix_values.specs.declared.kind.Kind.TheVariants as kind
use Rattle.helix_values.specs.declared.cell.Cell.{Cell}
use Rattle.helix_values.specs.declared.cell.Cell.TheVariants as cell
use Rattle.helix_ladders.specs.Calendar.{year_of, month_of, day_of_month, day_of, millis_of_day}

-- the last digits of a number, `width` of them
unfoldable pub last_digits : ℕ → ℕ → List ℕ
last_digits zero n = []
last_digits (suc width) n = last_digits width (n / 10) ++ (48 + n % 10) ∷ []

-- a digit before what is left of the digits after it: a zero with nothing after it goes
abbrev pub before_rest : ℕ → List ℕ → List ℕ
before_rest c [] = if c == 48 then [] else c ∷ []
before_rest c (d ∷ ds) = c ∷ d ∷ ds

-- digits without the zeros at their end
abbrev pub without_zeros : List ℕ → List ℕ
without_zeros [] = []
without_zeros (c ∷ cs) = before_rest c (without_zeros cs)

-- the number is below 0
abbrev pub is_negative : ℤ → Bool
is_negative (pos n) = false
is_negative (negsuc n) = true

-- the units of 10^-15 in one
abbrev pub one : ℕ
one = 10 ^ 15

-- a minus for a negative number, the whole part, and where the fraction isn't 0 a point and its places
abbrev pub units_text : ℤ → List ℕ
units_text units =
    minus_text (is_negative units) ++ (decimal (unsigned_abs units / one)
    ++ fraction_text (without_zeros (last_digits 15 (unsigned_abs units % one))))

-- YYYY-MM-DD
abbrev pub date_text : ℕ → ℕ → ℕ → List ℕ
date_text year month day = last_digits 4 year ++ 45 ∷ (last_digits 2 month ++ 45 ∷ last_digits 2 day)

-- hh:mm:ss
abbrev pub clock_text : ℕ → ℕ → ℕ → List ℕ
clock_text hour minute second = last_digits 2 hour ++ 58 ∷ (last_digits 2 minute ++ 58 ∷ last_digits 2 second)

-- YYYY-MM-DD of a day's number
abbrev pub day_text : ℕ → List ℕ
day_text day = date_text (year_of day) (month_of day) (day_of_month day)

-- hh:mm:ss.SSS, of a millisecond of a day
abbrev pub time_text : ℕ → List ℕ
time_text millis = clock_text (millis / 3600000) (millis / 60000 % 60) (millis / 1000 % 60)
    ++ 46 ∷ last_digits 3 (millis % 1000)

-- a date as its day, a date-time as its day and its time
abbrev pub moment_text : Kind → ℤ → List ℕ
moment_text kind.DateTime at = day_text (day_of at) ++ 84 ∷ time_text (unsigned_abs at % millis_of_day)
moment_text other at = day_text (day_of at)

-- `true` or `false`
abbrev pub truth_text : Bool → List ℕ
truth_text true = codes "true"
truth_text false = codes "false"

-- the written form of a value of a kind
abbrev pub cell_text : Kind → Cell → List ℕ
cell_text kind cell.Null = []
cell_text kind (cell.Bool truth) = truth_text truth
cell_text kind (cell.Number units) = units_text units
cell_text kind (cell.Moment at) = moment_text kind at
cell_text kind (cell.Text characters) = characters

-- a truth value, a number or a moment: its written form has few characters
abbrev pub IsSmall : Cell → Type 0
IsSmall (cell.Bool truth) = Unit {0}
IsSmall (cell.Number units) = Unit {0}
IsSmall (cell.Moment at) = Unit {0}
IsSmall other = ⊥
