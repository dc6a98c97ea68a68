-- Rows whose cells are cells for the classes of the regions.
use Rattle.std.specs.Prelude.{ℕ, ◌<◌, List, length, slice_index_or}
use Rattle.std.specs.List.{Contains}
use Rattle.helix_rows.specs.Inner.Levels.{level_of, part_of}
use Rattle.helix_rows.specs.Regions.{cell_at, class_at, AreCellsTo, IsCellFor}
use Rattle.helix_rows.specs.declared.layout.Layout.{Layout}
use Rattle.helix_values.specs.Class.{Class}
use Rattle.helix_values.specs.Counts.{IsMarkOf}
use Rattle.helix_values.specs.declared.cell.Cell.{Cell}
use Rattle.helix_values.specs.declared.mark.Mark.{Mark}

-- a cell for the class of the region with this number in a place of its fields
pub record IsCellOf {R : Type 0} (classes_of : R → List Class) (regions : List R) (number position : ℕ)
    (value : Cell) : Type 0 where
  pub is : (d : R) → IsCellFor (class_at (classes_of (slice_index_or regions number d)) position) value

-- the row's cell of each field is one for the classes of the regions of the field's part
abbrev pub HasCells : {R : Type 0} → (R → List Class) → List R → Layout → List Cell → Type 0
HasCells classes_of regions layout row = (field : ℕ) → field < length row → (number : ℕ)
    → Contains (part_of layout field).regions number
    → IsCellOf classes_of regions number (level_of layout field).position (cell_at row field)

-- a region with this number can be asked for a cell in a place of its fields
pub record CanBeAsked {R : Type 0} (classes_of : R → List Class) (regions : List R) (fields : List ℕ) (position : ℕ)
    (row : List Cell) (mark : Mark) (number : ℕ) : Type 0 where
  pub before : (d : R) → AreCellsTo position fields (classes_of (slice_index_or regions number d)) row
  pub within : (d : R) → IsMarkOf (class_at (classes_of (slice_index_or regions number d)) position) mark
