-- Numbers and moments as whole numbers on a line.
use Rattle.std.specs.Prelude.{ℤ, ◌≤ℤ◌, ◌↔◌}
use Rattle.helix_ladders.specs.Scale.{Ladder}
use Rattle.helix_ladders.specs.Ladders.{numbers_ladder, moments_ladder}
use Rattle.helix_values.specs.Class.{Class, numbers, moments}
use Rattle.helix_values.specs.Marks.{IsAdmitted}
use Rattle.helix_values.specs.Universe.{IsDecimal}
use Rattle.helix_values.specs.declared.cell.Cell.{Cell}
use Rattle.helix_values.specs.declared.cell.Cell.TheVariants as cell
use Rattle.helix_values.specs.declared.mark.Mark.{Mark}
use Rattle.helix_profile.specs.Validity.{IsBound, IsLevel}
use Rattle.helix_profile.specs.declared.test.Test.{Test}
use Rattle.helix_profile.specs.declared.test.Test.TheVariants as test
use Rattle.helix_domains.specs.declared.line.Line.{Line}
use Rattle.helix_domains.specs.declared.line.Line.TheVariants as line

-- the cell of a whole number
abbrev pub cell_on : Line → ℤ → Cell
cell_on line.Numbers units = cell.Number units
cell_on line.Moments units = cell.Moment units

-- the class of these cells
abbrev pub class_on : Line → Class
class_on line.Numbers = numbers
class_on line.Moments = moments

-- the ladder of a line
abbrev pub ladder_on : Line → Ladder
ladder_on line.Numbers = numbers_ladder
ladder_on line.Moments = moments_ladder

-- a cell of the line whose whole number is in a set
abbrev pub IsOnLine : Line → (ℤ → Type 0) → Cell → Type 0
IsOnLine line.Numbers Has (cell.Number units) = Has units
IsOnLine line.Moments Has (cell.Moment at) = Has at
IsOnLine line Has other = ⊥

-- of the numbers in the range of decimals, the mark admits the cells of those that aren't below the first
abbrev pub IsFirstAdmitted : Line → Mark → ℤ → Type 0
IsFirstAdmitted line mark first = (units : ℤ) → IsDecimal units → IsAdmitted mark (cell_on line units)
    ↔ (first ≤ℤ units)

-- the mark admits none of them
abbrev pub AreNotAdmitted : Line → Mark → Type 0
AreNotAdmitted line mark = (units : ℤ) → IsDecimal units → ¬ IsAdmitted mark (cell_on line units)

-- the bound and the level of a test, if any, are those of the line
abbrev pub IsTestOn : Line → Test → Type 0
IsTestOn line (test.Above bound) = IsBound (class_on line) bound
IsTestOn line (test.AtLeast bound) = IsBound (class_on line) bound
IsTestOn line (test.Below bound) = IsBound (class_on line) bound
IsTestOn line (test.AtMost bound) = IsBound (class_on line) bound
IsTestOn line (test.OnGrid level) = IsLevel (class_on line) level
IsTestOn line other = Unit {0}
