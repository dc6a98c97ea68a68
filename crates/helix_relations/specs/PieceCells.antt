-- The cells of a piece are cells for the classes of the fields. Lemmas.
use Rattle.std.proofs.Common.{◌≡◌, ℕ, zero, suc, ◌<◌, Some, List, [], ◌∷◌, length, slice_get, sym, ap, ◌∙◌, subst, arith}
use Rattle.std.proofs.lemmas.List.{length-map}
use Rattle.std.proofs.lemmas.Option.{same_Some, slice_get_within}
use Rattle.std.specs.List.{AllByRecursion}
use Rattle.helix_domains.proofs.OfKinds.{fits_slot, in_class}
use Rattle.helix_rows.specs.Regions as rows
use Rattle.helix_rows.specs.Regions.{piece, number_at, class_at, AreCellsTo, IsPieceOf}
use Rattle.helix_values.specs.Class.{class_of_kind}
use Rattle.helix_values.specs.declared.cell.Cell.{Cell}
use Rattle.helix_values.specs.declared.cell.Cell.TheVariants as cell
use Rattle.helix_profile.specs.Good.{IsCellOf}
use Rattle.helix_profile.specs.Satisfaction.{cell_at}
use Rattle.helix_profile.specs.declared.field.Field.{Field}
use Rattle.helix_relations.specs.Pieces.{classes_of, IsRegionPiece}
use Rattle.helix_relations.specs.Region.{RegionField, RegionContent, numbers_of, IsRegionCell}

cell_for : (field : Field) (v : Cell) → IsCellOf field v → rows.IsCellFor (class_of_kind field.kind) v
cell_for field cell.Null is = (tt, tt)
cell_for field (cell.Bool b) is = (in_class field.kind (cell.Bool b) is, tt)
cell_for field (cell.Number n) is = (in_class field.kind (cell.Number n) is, tt)
cell_for field (cell.Moment m) is = (in_class field.kind (cell.Moment m) is, tt)
cell_for field (cell.Text t) is = (in_class field.kind (cell.Text t) is, fits_slot field.kind (cell.Text t) is)

-- each field has a class
pub classed : (region : RegionContent) → length (classes_of region.fields) ≡ length (numbers_of region.fields)
classed region = length-map region.fields (λ field. class_of_kind field.field.kind)
    ∙ sym (length-map region.fields (λ field. field.number))

cells_for : (fields : List RegionField) (row : List Cell)
    → AllByRecursion (λ field. IsRegionCell field (cell_at row field.number)) fields → (index : ℕ)
    → index < length (numbers_of fields)
    → rows.IsCellFor (class_at (classes_of fields) index) (rows.cell_at (piece (numbers_of fields) row) index)
cells_for [] row all index below = absurd (omega (arith, below))
cells_for (field ∷ fields) row all zero below = cell_for field.field (cell_at row field.number) all.0.of_field
cells_for (field ∷ fields) row all (suc index) below = cells_for fields row all.1 index (omega (arith, below))

-- and a piece has a cell for each field's class
pub shaped : (region : RegionContent) (cells : List Cell) → IsRegionPiece region cells
    → IsPieceOf (numbers_of region.fields) (classes_of region.fields) cells
shaped region cells is = subst (IsPieceOf (numbers_of region.fields) (classes_of region.fields)) is.is (record {
  count = length-map (numbers_of region.fields) (λ number. rows.cell_at is.row number);
  each = cells_for region.fields is.row is.is_row.cells;
})

-- the number and the class at the index of a field
pub at_field : (fields : List RegionField) (u : ℕ) (field : RegionField) → slice_get fields u ≡ Some field
    → (u < length (numbers_of fields)) × (number_at (numbers_of fields) u ≡ field.number)
    × (class_at (classes_of fields) u ≡ class_of_kind field.field.kind)
at_field [] u field at = absurd (none_is u at)
  where
    none_is : (u : ℕ) → slice_get [] u ≡ Some field → ⊥
    none_is u at = let below = slice_get_within [] u field at in omega (arith, below)
at_field (first ∷ fields) zero field at = let same : first ≡ field = same_Some first field at in
    (omega arith, ap (λ f. f.number) same, ap (λ f. class_of_kind f.field.kind) same)
at_field (first ∷ fields) (suc u) field at = let more = at_field fields u field at in
    (let below = more.0 in omega (arith, below), more.1, more.2)
