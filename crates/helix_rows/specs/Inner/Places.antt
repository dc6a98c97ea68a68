-- What a walk keeps.
use Rattle.std.specs.Prelude.{◌≡◌, ℕ, Bool, true, false, List, [], Option, None, Some, length}
use Rattle.std.specs.List.{All, Any}
use Rattle.helix_rows.specs.Inner.Cells.{HasCells}
use Rattle.helix_rows.specs.Inner.Levels.{AreAliveTo, IsLayout, IsReady}
use Rattle.helix_rows.specs.Inner.Numbers.{Listed}
use Rattle.helix_rows.specs.Parts.{HasAt, IsInParts}
use Rattle.helix_rows.specs.declared.layout.Layout.{Layout}
use Rattle.helix_rows.specs.declared.walk.Place.{Place}
use Rattle.helix_rows.specs.declared.walk.Place.TheVariants.{Nothing, Sought, Given}
use Rattle.helix_values.specs.Class.{Class}
use Rattle.helix_values.specs.Slot.{FitsSlot}
use Rattle.helix_values.specs.declared.cell.Cell.{Cell}

-- the row of a place
abbrev pub place_of : Place → List Cell → Option (List Cell)
place_of Nothing row = None
place_of Sought row = Some row
place_of Given row = Some row

-- some part has no region, or none
abbrev pub IsEmptyIf : Bool → Layout → Type 0
IsEmptyIf true layout = Any (λ part. part.regions ≡ []) layout.parts
IsEmptyIf false layout = All (λ part. ¬ (part.regions ≡ [])) layout.parts

-- the row of a given place is in the parts, with the regions that are alive at each of its fields
abbrev pub IsGiven : (ℕ → List Cell → Type 0) → Layout → List Cell → List Listed → Place → Type 0
IsGiven Has layout row alive Nothing = Unit {0}
IsGiven Has layout row alive Sought = Unit {0}
IsGiven Has layout row alive Given =
    IsInParts Has (length row) layout.parts row × AreAliveTo Has layout row alive (length row)

pub record IsWalk {R : Type 0} (fields_of : R → List ℕ) (classes_of : R → List Class)
    (Has : R → List Cell → Type 0) (layout : Layout)
    (regions : List R) (alive : List Listed) (row : List Cell) (room : ℕ) (place : Place)
    (empty : Bool) : Type 0 where
  pub layout_is : IsLayout layout (length row)
  pub ready : IsReady fields_of classes_of Has layout regions alive room (length row)
  pub emptiness : IsEmptyIf empty layout
  pub fit : All FitsSlot row
  pub cells : HasCells classes_of regions layout row
  pub given : IsGiven (HasAt Has regions) layout row alive place
