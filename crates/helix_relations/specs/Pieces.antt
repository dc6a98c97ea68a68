-- A region as a set of pieces of rows: one cell for each field, in the order of the fields.
use Rattle.std.specs.Prelude.{◌≡◌, List, map}
use Rattle.helix_rows.specs.Regions.{piece}
use Rattle.helix_values.specs.Class.{Class, class_of_kind}
use Rattle.helix_values.specs.declared.cell.Cell.{Cell}
use Rattle.helix_relations.specs.Region.{RegionField, RegionContent, numbers_of, IsRegionRow}

-- the classes of the fields
abbrev pub classes_of : List RegionField → List Class
classes_of fields = map (λ field. class_of_kind field.field.kind) fields

-- the cells that some row of the region has at its fields
pub record IsRegionPiece (region : RegionContent) (cells : List Cell) : Type 0 where
  pub row : List Cell
  pub is_row : IsRegionRow region row
  pub is : piece (numbers_of region.fields) row ≡ cells
