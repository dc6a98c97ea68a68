-- Numbers and moments as whole numbers of the range of the widest kind.
use Rattle.std.specs.Prelude.{◌≡◌, ◌^◌, ℤ, pos, neg_ℤ, ◌≤ℤ◌, Option, None, Some}
use Rattle.helix_ladders.specs.Calendar.{last_moment}
use Rattle.helix_ladders.specs.declared.rising.Shift.{Ghosts}
use Rattle.helix_values.specs.declared.cell.Cell.{Cell}
use Rattle.helix_values.specs.declared.cell.Cell.TheVariants as cell
use Rattle.helix_values.specs.Class.{Class, numbers, moments}
use Rattle.helix_pairs.specs.OffsetShift.{low_of, high_of}
use Rattle.helix_pairs.specs.declared.bound.Bound.{Bound}
use Rattle.helix_pairs.specs.declared.offset_shift.OffsetShift.{OffsetShift}
use Rattle.helix_links.specs.declared.quantity.Quantity.{Quantity}
use Rattle.helix_links.specs.declared.quantity.Quantity.TheVariants.{Numbers, Moments}

-- the class of the values
abbrev pub class_of_quantity : Quantity → Class
class_of_quantity Numbers = numbers
class_of_quantity Moments = moments

-- the least whole number of the range
abbrev pub least_of : Quantity → ℤ
least_of Numbers = neg_ℤ (pos (10 ^ 35))
least_of Moments = pos 0

-- and the greatest one
abbrev pub greatest_of : Quantity → ℤ
greatest_of Numbers = pos (10 ^ 35)
greatest_of Moments = pos last_moment

-- the cell of a whole number
abbrev pub cell_in : Quantity → ℤ → Cell
cell_in Numbers units = cell.Number units
cell_in Moments at = cell.Moment at

-- the whole number of a cell
abbrev pub whole_of : Cell → ℤ
whole_of (cell.Number units) = units
whole_of (cell.Moment at) = at
whole_of other = pos 0

-- the whole number isn't below the least one, which there is
abbrev pub IsFrom : Option ℤ → ℤ → Type 0
IsFrom None whole = ⊥
IsFrom (Some least) whole = least ≤ℤ whole

-- the bound is one of values of the range
abbrev pub IsBoundIn : {G : Ghosts OffsetShift} → Quantity → Bound OffsetShift G → Type 0
IsBoundIn quantity bound = (low_of bound.shift ≡ least_of quantity) × (high_of bound.shift ≡ greatest_of quantity)
