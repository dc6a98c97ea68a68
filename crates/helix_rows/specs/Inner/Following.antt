-- How far a row can be raised.
use Rattle.std.specs.Prelude.{ℕ, ◌+◌, ◌<◌, ◌≤◌, List, Option, None, Some, length, slice_set}
use Rattle.helix_rows.specs.Inner.Answers.{IsLastFrom, IsRaised}
use Rattle.helix_rows.specs.Inner.Levels.{part_of, up_to, alive_at, GoesOn, IsAlive}
use Rattle.helix_rows.specs.Inner.Numbers.{Listed}
use Rattle.helix_rows.specs.Parts.{IsInPart, IsInParts}
use Rattle.helix_rows.specs.Regions.{Begins}
use Rattle.helix_rows.specs.declared.layout.Layout.{Layout}
use Rattle.helix_values.specs.Slot.{FitsSlot}
use Rattle.helix_values.specs.declared.cell.Cell.{Cell}

-- With another cell of a field a row is raised there, and its cells from a start up to that field begin rows of their
-- parts, with the regions that are alive.
pub record IsRaisableAt (Has : ℕ → List Cell → Type 0) (layout : Layout) (row : List Cell) (alive : List Listed)
    (best : Cell) (start field : ℕ) : Type 0 where
  pub within : field < length row
  pub from : start ≤ field
  pub fits : FitsSlot best
  pub goes : GoesOn Has layout field row best
  pub raised : IsRaised (IsInParts Has (length row) layout.parts) row (slice_set row field best) field
  pub is_alive : (other : ℕ) → start ≤ other → other < field + 1
      → IsAlive Has layout (slice_set row field best) other (alive_at alive other)
  pub begun : (other : ℕ) → start ≤ other → other < field + 1
      → Begins (IsInPart Has (part_of layout other).regions) (up_to layout other (slice_set row field best))

-- The same of the field, or no row of the parts that has the row's cells before the start is above the row.
abbrev pub IsRaisable : (ℕ → List Cell → Type 0) → Layout → List Cell → List Listed → Cell → ℕ → Option ℕ → Type 0
IsRaisable Has layout row alive best start None = IsLastFrom (IsInParts Has (length row) layout.parts) row start
IsRaisable Has layout row alive best start (Some field) = IsRaisableAt Has layout row alive best start field
