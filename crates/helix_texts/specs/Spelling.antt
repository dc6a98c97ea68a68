-- The texts that spell a value, beside its written form: every JSON number of the same value, and every moment text.
use Rattle.std.specs.Prelude.{◌≡◌, ◌⊎◌, ℕ, ◌+◌, ◌-◌, ◌*◌, ◌^◌, ◌<◌, ◌≤◌, ℤ, pos, Bool, true, false, List, [], ◌∷◌, ◌++◌, length}
use Rattle.helix_json.specs.Numbers.{IsUnits, digits_value, fraction_text}
use Rattle.helix_base.specs.Digits.{AreDigits}
use Rattle.helix_values.specs.declared.kind.Kind.{Kind}
use Rattle.helix_values.specs.declared.cell.Cell.{Cell}
use Rattle.helix_values.specs.declared.cell.Cell.TheVariants as cell
use Rattle.helix_ladders.specs.Calendar.{IsDate, day_number, midnight}
use Rattle.helix_values.specs.Universe.{InUniverse}
use Rattle.helix_texts.specs.Texts.{truth_text, date_text, clock_text}

-- a time of day: hours, minutes and seconds, the digits of a fraction of a second, and whether `Z` follows
pub record Time : Type 0 where
  pub hour : ℕ
  pub minute : ℕ
  pub second : ℕ
  pub fraction : List ℕ
  pub zulu : Bool

-- hours, minutes and seconds in range, with at most three places
pub record IsTime (time : Time) : Type 0 where
  pub hour : time.hour < 24
  pub minute : time.minute < 60
  pub second : time.second < 60
  pub fraction : AreDigits time.fraction
  pub places : length time.fraction ≤ 3

-- `Z`, where it is wanted
abbrev pub zulu_text : Bool → List ℕ
zulu_text true = 90 ∷ []
zulu_text false = []

-- hh:mm:ss, then `.` and the digits where there are any, then `Z` where it is wanted
abbrev pub full_time_text : Time → List ℕ
full_time_text time = clock_text time.hour time.minute time.second
    ++ (fraction_text time.fraction ++ zulu_text time.zulu)

-- one digit of a fraction counts tenths of a second, two hundredths, three thousandths
abbrev pub thousandths : List ℕ → ℕ
thousandths fraction = digits_value fraction * 10 ^ (3 - length fraction)

-- the milliseconds since midnight
abbrev pub millis_of_time : Time → ℕ
millis_of_time time = ((time.hour * 60 + time.minute) * 60 + time.second) * 1000 + thousandths time.fraction

-- a date alone is its midnight
pub record SpellsDay (text : List ℕ) (at : ℤ) : Type 0 where
  pub year : ℕ
  pub month : ℕ
  pub day : ℕ
  pub date : IsDate year month day
  pub is : text ≡ date_text year month day
  pub moment : at ≡ midnight (day_number year month day)

-- a date, `T` and a time of day
pub record SpellsDayAndTime (text : List ℕ) (at : ℤ) : Type 0 where
  pub year : ℕ
  pub month : ℕ
  pub day : ℕ
  pub time : Time
  pub date : IsDate year month day
  pub of_day : IsTime time
  pub is : text ≡ date_text year month day ++ 84 ∷ full_time_text time
  pub moment : at ≡ pos (86400000 * day_number year month day + millis_of_time time)

-- a text is a moment text of this moment
abbrev pub SpellsMoment : List ℕ → ℤ → Type 0
SpellsMoment text at = SpellsDay text at ⊎ SpellsDayAndTime text at

-- a text reads as a value, whatever its kind
abbrev pub ReadsAs : List ℕ → Cell → Type 0
ReadsAs text cell.Null = ⊥
ReadsAs text (cell.Bool truth) = text ≡ truth_text truth
ReadsAs text (cell.Number units) = IsUnits text units
ReadsAs text (cell.Moment at) = SpellsMoment text at
ReadsAs text (cell.Text characters) = text ≡ characters

-- a text spells a value of a kind
pub record Spells (kind : Kind) (text : List ℕ) (value : Cell) : Type 0 where
  pub within : InUniverse kind value
  pub reads : ReadsAs text value
