-- The values of a class, and marks that tell those that meet a bound from the others.
use Rattle.std.specs.Prelude.{◌↔◌, Option, None, Some}
use Rattle.helix_values.specs.declared.cell.Cell.{Cell}
use Rattle.helix_values.specs.declared.mark.Mark.{Mark}
use Rattle.helix_values.specs.declared.mark.Mark.TheVariants.{Start, At, After}
use Rattle.helix_values.specs.Class.{Class}
use Rattle.helix_values.specs.Counts.{widest_kind, IsMarkOf}
use Rattle.helix_values.specs.Marks.{IsAdmitted}
use Rattle.helix_values.specs.Slot.{FitsSlot}
use Rattle.helix_values.specs.Universe.{InUniverse}
use Rattle.helix_values.specs.View.{cell_of}

-- a value of the widest universe of a class
abbrev pub IsValue : Class → Cell → Type 0
IsValue class v = InUniverse (widest_kind class) v

-- the bound of a mark, if any, fits a slot
abbrev pub FitsBound : Mark → Type 0
FitsBound Start = Unit {0}
FitsBound (At bound) = FitsSlot (cell_of bound)
FitsBound (After bound) = FitsSlot (cell_of bound)

-- a mark of the class that a slot can keep
abbrev pub IsKeptMark : Class → Mark → Type 0
IsKeptMark class mark = IsMarkOf class mark × FitsBound mark

-- the values of a class that are members are those that the answer admits, or there are none
abbrev pub AreThoseAdmitted : Class → (Cell → Type 0) → Option Mark → Type 0
AreThoseAdmitted class IsOne None = (v : Cell) → IsValue class v → ¬ IsOne v
AreThoseAdmitted class IsOne (Some mark) =
    IsKeptMark class mark × ((v : Cell) → IsValue class v → IsOne v ↔ IsAdmitted mark v)
