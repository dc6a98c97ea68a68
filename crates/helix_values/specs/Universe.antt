-- The universe of a kind, as a test on one value. Numbers are kept in units of 10^-15, moments in milliseconds.
use Rattle.std.specs.Prelude.{◌≤◌, ◌^◌, ℤ, pos, neg_ℤ, ◌≤ℤ◌, length}
use Rattle.std.specs.List.{All}
use Rattle.helix_base.specs.Alphabet.{IsCharacterOf}
use Rattle.helix_values.specs.declared.kind.Kind.{Kind}
use Rattle.helix_values.specs.declared.kind.Kind.TheVariants as kind
use Rattle.helix_values.specs.declared.cell.Cell.{Cell}
use Rattle.helix_values.specs.declared.cell.Cell.TheVariants as cell
use Rattle.helix_ladders.specs.Calendar.{IsMoment, millis_of_day}
use Rattle.helix_values.specs.Codes.{IsValidCode}
use Rattle.helix_ladders.specs.Grids.{IsMultipleOf}

-- a number from -10^20 to 10^20
abbrev pub IsDecimal : ℤ → Type 0
IsDecimal units = (neg_ℤ (pos (10 ^ 35)) ≤ℤ units) × (units ≤ℤ pos (10 ^ 35))

-- the values of a kind: truth values, whole numbers, numbers, texts of at most 1,000 characters of the alphabet,
-- midnights, moments, valid words of the code. Null is in no universe.
abbrev pub InUniverse : Kind → Cell → Type 0
InUniverse kind.Boolean (cell.Bool truth) = Unit {0}
InUniverse kind.Integer (cell.Number units) = IsDecimal units × IsMultipleOf (10 ^ 15) units
InUniverse kind.Decimal (cell.Number units) = IsDecimal units
InUniverse (kind.Text alphabet) (cell.Text codes) = (length codes ≤ 1000) × All (IsCharacterOf alphabet) codes
InUniverse kind.Date (cell.Moment at) = IsMoment at × IsMultipleOf millis_of_day at
InUniverse kind.DateTime (cell.Moment at) = IsMoment at
InUniverse (kind.Code code) (cell.Text codes) = IsValidCode code codes
InUniverse other value = ⊥
