-- The grammar of strings, one character after the other.
use Rattle.std.specs.Prelude.{◌≡◌, ◌≤◌, ◌<◌, ℕ, ◌+◌, ◌*◌, ◌-◌, ◌==◌, ◌||◌, ◌&&◌, nat_le, nat_lt, if◌then◌else◌, Option, Some, None}
use Rattle.std.specs.Char.{digit_value}
use Rattle.helix_json.specs.Text.{IsHigh, escaped}
use Rattle.helix_json.specs.declared.string.StringState.{StringState}
use Rattle.helix_json.specs.declared.string.StringState.TheVariants as state
use Rattle.helix_json.specs.declared.string.StringMove.{StringMove}
use Rattle.helix_json.specs.declared.string.StringMove.TheVariants as move

abbrev pub plain_step : ℕ → StringMove
plain_step c = if c == 34 then move.Close else if c == 92 then move.Go state.Backslash else if nat_lt c 32
    then move.Refuse else move.Give c

abbrev pub give_or_refuse : Option ℕ → StringMove
give_or_refuse None = move.Refuse
give_or_refuse (Some c) = move.Give c

abbrev pub backslash_step : ℕ → StringMove
backslash_step c = if c == 117 then move.Go (state.Unit 0 0) else give_or_refuse (escaped c)

-- a digit of value h more after `digits` digits of this value
abbrev pub unit_step : ℕ → ℕ → ℕ → StringMove
unit_step digits value h = if nat_le 16 h then move.Refuse else if digits == 1 && (value == 13 && nat_le 12 h)
    then move.Refuse
    else if nat_lt digits 3 then move.Go (state.Unit (digits + 1) (value * 16 + h))
    else if nat_le 0xD800 (value * 16 + h) && nat_lt (value * 16 + h) 0xDC00 then move.Go (state.High (value * 16 + h))
    else move.Give (value * 16 + h)

abbrev pub low_step : ℕ → ℕ → ℕ → ℕ → StringMove
low_step high digits value h = if nat_le 16 h then move.Refuse else if (digits == 0 && nat_lt h 13)
    || (digits == 0 && nat_lt 13 h) then move.Refuse
    else if digits == 1 && nat_lt h 12 then move.Refuse
    else if nat_lt digits 3 then move.Go (state.Low high (digits + 1) (value * 16 + h))
    else move.Give (0x10000 + (high - 0xD800) * 0x400 + (value * 16 + h - 0xDC00))

abbrev pub string_step : StringState → ℕ → StringMove
string_step state.Plain c = plain_step c
string_step state.Backslash c = backslash_step c
string_step (state.Unit digits value) c = unit_step digits value (digit_value c)
string_step (state.High high) c = if c == 92 then move.Go (state.HighBackslash high) else move.Refuse
string_step (state.HighBackslash high) c = if c == 117 then move.Go (state.Low high 0 0) else move.Refuse
string_step (state.Low high digits value) c = low_step high digits value (digit_value c)

-- digits of a first unit that can still be no low surrogate, and of a low one
pub record UnitFine (n v : ℕ) : Type 0 where
  pub few : n ≤ 3
  pub zero_is : n ≡ 0 → v ≡ 0
  pub one_is : n ≡ 1 → v < 16
  pub two_is : n ≡ 2 → v < 256
  pub two_low : n ≡ 2 → v < 0xE0 → v < 0xDC
  pub three_is : n ≡ 3 → v < 4096
  pub three_low : n ≡ 3 → v < 0xE00 → v < 0xDC0

pub record LowFine (n v : ℕ) : Type 0 where
  pub few : n ≤ 3
  pub zero_is : n ≡ 0 → v ≡ 0
  pub one_is : n ≡ 1 → v ≡ 13
  pub two_from : n ≡ 2 → 0xDC ≤ v
  pub two_to : n ≡ 2 → v < 0xE0
  pub three_from : n ≡ 3 → 0xDC0 ≤ v
  pub three_to : n ≡ 3 → v < 0xE00

abbrev pub Fine : StringState → Type 0
Fine state.Plain = Unit {0}
Fine state.Backslash = Unit {0}
Fine (state.Unit n v) = UnitFine n v
Fine (state.High high) = IsHigh high
Fine (state.HighBackslash high) = IsHigh high
Fine (state.Low high n v) = IsHigh high × LowFine n v
