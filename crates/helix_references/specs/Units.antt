-- The units of offsets between moments.
use Rattle.std.specs.Prelude.{ℕ, Bool, true, false, not, ◌&&◌, if◌then◌else◌, List, [], ◌∷◌, Option, Some, None, find, bytes_eq, codes}
use Rattle.helix_json.specs.declared.value.Json.{Json}
use Rattle.helix_json.specs.declared.value.Json as json
use Rattle.helix_values.specs.declared.kind.Kind.{Kind}
use Rattle.helix_values.specs.declared.kind.Kind.TheVariants as kind
use Rattle.helix_references.specs.declared.unit.MomentUnit.{MomentUnit}
use Rattle.helix_references.specs.declared.unit.MomentUnit.TheVariants as unit

unfoldable pub unit_word : MomentUnit → List ℕ
unit_word unit.Millis = codes "millis"
unit_word unit.Seconds = codes "seconds"
unit_word unit.Minutes = codes "minutes"
unit_word unit.Hours = codes "hours"
unit_word unit.Days = codes "days"
unit_word unit.Months = codes "months"
unit_word unit.Years = codes "years"
unit_word unit.WorkingDays = codes "workingDays"

-- all units
abbrev pub units : List MomentUnit
units = unit.Millis ∷ unit.Seconds ∷ unit.Minutes ∷ unit.Hours ∷ unit.Days
    ∷ unit.Months ∷ unit.Years ∷ unit.WorkingDays ∷ []

-- the unit with a word
unfoldable pub unit_named : List ℕ → Option MomentUnit
unit_named word = find (λ unit. bytes_eq word (unit_word unit)) units

-- a unit of the calendar: one by which a date is shifted, and no other moment
abbrev pub is_calendar : MomentUnit → Bool
is_calendar unit.Months = true
is_calendar unit.Years = true
is_calendar unit.WorkingDays = true
is_calendar other = false

-- the milliseconds of a unit of time; a unit of the calendar is counted
abbrev pub size : MomentUnit → ℕ
size unit.Millis = 1
size unit.Seconds = 1000
size unit.Minutes = 60000
size unit.Hours = 3600000
size unit.Days = 86400000
size other = 1

-- how far a moment is shifted at most: by all moments, in milliseconds, or by the calendar's months, years or days
abbrev pub greatest : MomentUnit → ℕ
greatest unit.Months = 119988
greatest unit.Years = 9999
greatest unit.WorkingDays = 3652059
greatest other = 315537897599999

abbrev pub is_date : Option Kind → Bool
is_date (Some kind.Date) = true
is_date other = false

-- a unit of the calendar needs a date as the field that is shifted
abbrev pub allowed : Option Kind → Option MomentUnit → Option MomentUnit
allowed right None = None
allowed right (Some unit) = if is_calendar unit && not (is_date right) then None else Some unit

-- the unit that a value names, for an offset from a field of a kind
abbrev pub unit_in : Option Kind → Json → Option MomentUnit
unit_in right (json.Str word) = allowed right (unit_named word)
unit_in right other = None
