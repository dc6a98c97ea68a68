-- What questions leave of a walk.
use Rattle.std.specs.Prelude.{◌↔◌, List}
use Rattle.helix_profile.specs.declared.field.Field.{Field}
use Rattle.helix_relations.specs.Region.{RegionContent, numbers_of}
use Rattle.helix_rows.specs.Parts.{Walk, InWalk, KeepsParts}
use Rattle.helix_values.specs.declared.cell.Cell.{Cell}
use Rattle.helix_walk.specs.Fields.{IsWalkOver}
use Rattle.helix_relations.specs.Pieces.{IsRegionPiece}
use Rattle.helix_walk.specs.Classes.{region_classes}

-- the walk has the same parts, rows and fields
pub record KeepsWalk (old new : Walk RegionContent) : Type 0 where
  pub parts : KeepsParts (λ region. numbers_of region.fields) region_classes (λ region. region.asked) IsRegionPiece old new
  pub rows : (row : List Cell) → InWalk IsRegionPiece new row ↔ InWalk IsRegionPiece old row
  pub fields : (fields : List Field) → IsWalkOver fields old → IsWalkOver fields new
