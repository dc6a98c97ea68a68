-- The fields of a profile that a walk is over.
use Rattle.std.specs.Prelude.{◌≡◌, ℕ, ◌<◌, List, map, length}
use Rattle.std.specs.List.{All}
use Rattle.helix_profile.specs.Good.{HasShape}
use Rattle.helix_profile.specs.declared.field.Field.{Field}
use Rattle.helix_relations.specs.Region.{RegionContent}
use Rattle.helix_rows.specs.Parts.{Walk, HasClasses}
use Rattle.helix_rows.specs.Regions.{class_at}
use Rattle.helix_values.specs.Class.{Class, class_of_kind}
use Rattle.helix_values.specs.declared.cell.Cell.{Cell}
use Rattle.helix_walk.specs.Classes.{region_classes}

-- the class of the field with a number
abbrev pub class_in : List Field → ℕ → Class
class_in fields number = class_at (map (λ field. class_of_kind field.kind) fields) number

-- The walk's rows have a cell for each field, its parts have regions, and the classes in each of these are those of the
-- fields with the numbers of its part.
pub record IsWalkOver (fields : List Field) (walk : Walk RegionContent) : Type 0 where
  pub count : walk.fields ≡ length fields
  pub within : All (λ part. All (λ number. number < length walk.regions) part.regions) walk.parts
  pub classes : All (λ part. All (HasClasses region_classes walk.regions (map (class_in fields) part.fields)) part.regions)
      walk.parts

-- the row has the shape of the fields that the walk is over
pub record HasShapeFor (walk : Walk RegionContent) (row : List Cell) : Type 0 where
  pub fields : List Field
  pub over : IsWalkOver fields walk
  pub shape : HasShape fields row
