-- The values that are not allowed from one on.
use Rattle.helix_values.specs.declared.cell.Cell.{Cell}
use Rattle.helix_values.specs.Class.{Class}
use Rattle.helix_values.specs.Marks.{IsAdmitted}
use Rattle.helix_values.specs.Order.{CellLess}
use Rattle.helix_search.specs.declared.link.Exclusion.{Exclusion}
use Rattle.helix_search.specs.declared.link.Exclusion.TheVariants.{No, Until, Rest}
use Rattle.helix_search.specs.Bounds.{IsValue, IsKeptMark}

-- the value is allowed; it isn't, and the mark, which doesn't admit it, admits each value after it that is; or neither
-- the value nor any after it is allowed
abbrev pub IsExclusion : Class → (Cell → Type 0) → Cell → Exclusion → Type 0
IsExclusion class IsAllowed v No = IsAllowed v
IsExclusion class IsAllowed v (Until mark) = IsKeptMark class mark × (¬ IsAdmitted mark v)
    × ((w : Cell) → IsValue class w → ¬ CellLess w v → IsAllowed w → IsAdmitted mark w)
IsExclusion class IsAllowed v Rest = (w : Cell) → IsValue class w → ¬ CellLess w v → ¬ IsAllowed w
