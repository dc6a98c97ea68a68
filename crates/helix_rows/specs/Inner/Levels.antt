-- The fields as levels of the parts, and the regions that are alive at them.
use Rattle.std.specs.Prelude.{◌≡◌, ℕ, zero, suc, ◌+◌, ◌<◌, ◌≤◌, Bool, true, false, List, [], ◌∷◌, take, length, slice_index_or, slice_set}
use Rattle.std.specs.List.{All, Contains}
use Rattle.helix_rows.specs.Inner.Numbers.{Listed}
pub use Rattle.helix_rows.specs.Parts.{KeepRegions}
use Rattle.helix_rows.specs.Parts.{IsInPart, AreRegionsOf}
use Rattle.helix_rows.specs.Regions.{cell_at, number_at, piece, Begins, Continues}
use Rattle.helix_rows.specs.declared.layout.Layout.{Layout}
use Rattle.helix_rows.specs.declared.layout.Level.{Level}
use Rattle.helix_rows.specs.declared.part.Part.{Part}
use Rattle.helix_values.specs.Class.{Class}
use Rattle.helix_values.specs.declared.cell.Cell.{Cell}

-- the part with a number, the level of a field, and the field's part
abbrev pub part_at : List Part → ℕ → Part
part_at parts number = slice_index_or parts number (record { fields = []; regions = [] })

abbrev pub level_of : Layout → ℕ → Level
level_of layout field = slice_index_or layout.levels field (record { part = 0; position = 0 })

abbrev pub part_of : Layout → ℕ → Part
part_of layout field = part_at layout.parts (level_of layout field).part

-- the level of a field: where it is in its part
pub record IsLevel (parts : List Part) (field : ℕ) (level : Level) : Type 0 where
  pub part : level.part < length parts
  pub position : level.position < length (part_at parts level.part).fields
  pub is : number_at (part_at parts level.part).fields level.position ≡ field

-- each field has its level, and each place of a part is the level of its field
pub record IsLayout (layout : Layout) (fields : ℕ) : Type 0 where
  pub count : length layout.levels ≡ fields
  pub levels : (field : ℕ) → field < fields → IsLevel layout.parts field (level_of layout field)
  pub within : (p i : ℕ) → p < length layout.parts → i < length (part_at layout.parts p).fields
      → number_at (part_at layout.parts p).fields i < fields
  pub back : (p i : ℕ) → p < length layout.parts → i < length (part_at layout.parts p).fields
      → level_of layout (number_at (part_at layout.parts p).fields i) ≡ record { part = p; position = i }
  pub rising : (p i k : ℕ) → p < length layout.parts → i < k → k < length (part_at layout.parts p).fields
      → number_at (part_at layout.parts p).fields i < number_at (part_at layout.parts p).fields k

-- a row's cells of the earlier fields of a field's part, and these with its own
abbrev pub before_of : Layout → ℕ → List Cell → List Cell
before_of layout field row = piece (take (level_of layout field).position (part_of layout field).fields) row

abbrev pub up_to : Layout → ℕ → List Cell → List Cell
up_to layout field row = piece (take ((level_of layout field).position + 1) (part_of layout field).fields) row

-- a cell with which a row's earlier cells go on to a row of the field's part
abbrev pub GoesOn : (ℕ → List Cell → Type 0) → Layout → ℕ → List Cell → Cell → Type 0
GoesOn Has layout field row next =
    Continues (IsInPart Has (part_of layout field).regions) (before_of layout field row) next

-- up to a field, the row's cells begin a row of each part
abbrev pub AreBegunTo : (ℕ → List Cell → Type 0) → Layout → List Cell → ℕ → Type 0
AreBegunTo Has layout row end = (field : ℕ) → field < end
    → Begins (IsInPart Has (part_of layout field).regions) (up_to layout field row)

-- the regions that are alive after the cell of a field
abbrev pub alive_at : List Listed → ℕ → List ℕ
alive_at alive field = (slice_index_or alive field (record { items = []; room = 0 })).items

-- those that are alive in a part before a place of it: all, or those after the cell of the field before the place
abbrev pub among_part : Part → List Listed → ℕ → List ℕ
among_part part alive zero = part.regions
among_part part alive (suc position) = alive_at alive (number_at part.fields position)

-- those that are alive at the level of a field
abbrev pub among_at : Layout → List Listed → ℕ → List ℕ
among_at layout alive field = among_part (part_of layout field) alive (level_of layout field).position

-- they are regions of the field's part, all that the row's cells up to the field begin a row of
pub record IsAlive (Has : ℕ → List Cell → Type 0) (layout : Layout) (row : List Cell) (field : ℕ)
    (numbers : List ℕ) : Type 0 where
  pub all : (n : ℕ) → Contains (part_of layout field).regions n → Begins (Has n) (up_to layout field row)
      → Contains numbers n
  pub only : (n : ℕ) → Contains numbers n → Contains (part_of layout field).regions n

abbrev pub AreAliveTo : (ℕ → List Cell → Type 0) → Layout → List Cell → List Listed → ℕ → Type 0
AreAliveTo Has layout row alive end =
    (field : ℕ) → field < end → IsAlive Has layout row field (alive_at alive field)

-- an item is changed, or none is
abbrev pub ChangedIf : {X : Type 0} → Bool → List X → ℕ → X → List X
ChangedIf true items index item = slice_set items index item
ChangedIf false items index item = items

-- one region is alive after the cell of a field
abbrev pub OneIf : Bool → List Listed → ℕ → ℕ → List Listed
OneIf true alive field number = slice_set alive field
    (record { items = number ∷ []; room = (slice_index_or alive field (record { items = []; room = 0 })).room })
OneIf false alive field number = alive

-- two rows have the same cells before a field
abbrev pub Agree : ℕ → List Cell → List Cell → Type 0
Agree end a b = (field : ℕ) → field < end → cell_at a field ≡ cell_at b field

-- the regions are those of the parts, and each list of them has room for all of one part and no more
pub record IsReady {R : Type 0} (fields_of : R → List ℕ) (classes_of : R → List Class)
    (Has : R → List Cell → Type 0) (layout : Layout) (regions : List R) (alive : List Listed) (room fields : ℕ) : Type
    0 where
  pub are : AreRegionsOf fields_of classes_of Has regions layout.parts
  pub count : length alive ≡ fields
  pub rooms : All (λ listed. listed.room ≡ room) alive
  pub few : All (λ listed. length listed.items ≤ listed.room) alive
  pub enough : All (λ part. length part.regions ≤ room) layout.parts
  pub least : (bound : ℕ) → All (λ part. length part.regions ≤ bound) layout.parts → room ≤ bound
