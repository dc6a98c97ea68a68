-- What a region can be asked with.
use Rattle.std.specs.Prelude.{◌≡◌, ℕ, ◌<◌, Bool, List, Some, length, slice_get, slice_set}
use Rattle.helix_rows.specs.declared.region.Question.{Question}
use Rattle.helix_rows.specs.declared.region.Question.TheVariants.{Start, At, After}
use Rattle.helix_values.specs.declared.cell.Cell.{Cell}
use Rattle.helix_values.specs.declared.mark.Mark.{Mark}
use Rattle.helix_values.specs.Class.{class_of_kind}
use Rattle.helix_values.specs.Counts.{IsMarkOf}
use Rattle.helix_profile.specs.Satisfaction.{cell_at}
use Rattle.helix_rows.specs.Regions.{IsCellFor, IsLeastStep}
use Rattle.helix_relations.specs.Region.{RegionField, RegionContent, BeginsWith, ExtendsTo}
use Rattle.helix_relations.specs.RegionGraph.{number_of}

-- a cell for the field's class
abbrev pub IsCellForField : RegionField → Cell → Type 0
IsCellForField field v = IsCellFor (class_of_kind field.field.kind) v

-- a row's own cell that the question can be asked of; the least cell of all can be asked for whatever it is
abbrev pub IsOwnFor : Question → RegionField → Cell → Type 0
IsOwnFor Start field own = Unit {0}
IsOwnFor At field own = IsCellForField field own
IsOwnFor After field own = IsCellForField field own

-- the fact holds of the field at an index, counted from 0
abbrev pub OfField : List RegionField → ℕ → (RegionField → Type 0) → Type 0
OfField fields u Fact = (field : RegionField) → slice_get fields u ≡ Some field → Fact field

-- a mark for the field's class
abbrev pub IsMarkFor : Mark → RegionField → Type 0
IsMarkFor mark field = IsMarkOf (class_of_kind field.field.kind) mark

-- the row has a slot for the field
abbrev pub HasSlot : List Cell → RegionField → Type 0
HasSlot row field = field.number < length row

-- the prefix has a slot for the field, with a cell that the field can be asked with
pub record IsAskable (prefix : List Cell) (field : RegionField) : Type 0 where
  pub slot : HasSlot prefix field
  pub cell : IsCellForField field (cell_at prefix field.number)

-- so for each of the first `level` fields
abbrev pub AreAskable : RegionContent → ℕ → List Cell → Type 0
AreAskable region level prefix = (u : ℕ) → u < level → OfField region.fields u (IsAskable prefix)

-- some row of the region has the cells of the prefix at the first `level` fields
abbrev pub Begins : RegionContent → List Cell → ℕ → Type 0
Begins region prefix level = (row : List Cell) × BeginsWith region prefix level row

-- The row's cell at the level becomes the least with which its first cells extend to a row of the region, of those that
-- the question admits; or there is none, and the row stays.
pub record IsStep (region : RegionContent) (level : ℕ) (question : Question) (found : Bool) (old new : List Cell) :
    Type 0 where
  pub answer : IsLeastStep (ExtendsTo region old level) question found (cell_at old (number_of region level))
      (cell_at new (number_of region level))
  pub others : new ≡ slice_set old (number_of region level) (cell_at new (number_of region level))
