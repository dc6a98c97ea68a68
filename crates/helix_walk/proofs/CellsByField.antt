-- One cell for each field.
use Rattle.std.proofs.Common.{◌≡◌, ℕ, suc, Some, List, [], ◌∷◌, length, slice_get, refl, arith}
use Rattle.helix_profile.specs.Good.{IsCellOf, AreCellsOf}
use Rattle.helix_profile.specs.Satisfaction.{cell_at}
use Rattle.helix_profile.specs.declared.field.Field.{Field}
use Rattle.helix_values.specs.declared.cell.Cell.{Cell}

pub as_many_cells : (fields : List Field) (row : List Cell) → AreCellsOf fields row → length row ≡ length fields
as_many_cells [] [] cells = refl
as_many_cells (field ∷ fields) (v ∷ row) cells =
    let others = as_many_cells fields row cells.1 in omega (arith, others)
as_many_cells [] (v ∷ row) cells = absurd cells
as_many_cells (field ∷ fields) [] cells = absurd cells

pub cells_by_field : (fields : List Field) (row : List Cell) → length row ≡ length fields
    → ((number : ℕ) (field : Field) → slice_get fields number ≡ Some field → IsCellOf field (cell_at row number))
    → AreCellsOf fields row
cells_by_field [] [] count each = tt
cells_by_field (field ∷ fields) (v ∷ row) count each = (
  each 0 field refl,
  cells_by_field fields row (omega (arith, count)) (λ number other is. each (suc number) other is),
)
cells_by_field [] (v ∷ row) count each = absurd (omega (arith, count))
cells_by_field (field ∷ fields) [] count each = absurd (omega (arith, count))
