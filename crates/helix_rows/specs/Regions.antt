-- Rows of some fields, the cells that go on from their first ones, and the least of these.
use Rattle.std.specs.Prelude.{◌≡◌, ℕ, ◌<◌, ◌≤◌, Bool, true, false, List, [], ◌∷◌, ◌++◌, map, length, slice_index_or}
use Rattle.helix_base.specs.Steps.{Counted}
use Rattle.helix_values.specs.Class.{Class, booleans}
use Rattle.helix_values.specs.Counts.{IsMarkBound}
use Rattle.helix_values.specs.Order.{CellLess}
use Rattle.helix_values.specs.Slot.{FitsSlot}
use Rattle.helix_values.specs.View.{cell_of}
use Rattle.helix_values.specs.declared.cell.Cell.{Cell}
use Rattle.helix_values.specs.declared.cell.Cell.TheVariants as cell
use Rattle.helix_values.specs.declared.mark.Mark.{Mark}
use Rattle.helix_values.specs.declared.mark.Mark.TheVariants as mark
use Rattle.helix_rows.specs.declared.region.Question.{Question}
use Rattle.helix_rows.specs.declared.region.Question.TheVariants.{Start, At, After}

-- the cell of a field of a row
abbrev pub cell_at : List Cell → ℕ → Cell
cell_at row field = slice_index_or row field cell.Null

-- the number in a place of a list of numbers
abbrev pub number_at : List ℕ → ℕ → ℕ
number_at numbers index = slice_index_or numbers index 0

-- the cells that a row has in some fields, in their order
abbrev pub piece : List ℕ → List Cell → List Cell
piece fields row = map (λ field. cell_at row field) fields

-- the class in a place of a list of classes
abbrev pub class_at : List Class → ℕ → Class
class_at classes index = slice_index_or classes index booleans

-- null or a value of the class, a text over the alphabet, that fits a slot
abbrev pub IsCellFor : Class → Cell → Type 0
IsCellFor class value = IsMarkBound class value × FitsSlot value

-- the row's cells of the first fields are cells for their classes
abbrev pub AreCellsTo : ℕ → List ℕ → List Class → List Cell → Type 0
AreCellsTo level fields classes row =
    (index : ℕ) → index < level → IsCellFor (class_at classes index) (cell_at row (number_at fields index))

-- the bound of a mark, if any, fits a slot
abbrev pub FitsBound : Mark → Type 0
FitsBound mark.Start = Unit {0}
FitsBound (mark.At bound) = FitsSlot (cell_of bound)
FitsBound (mark.After bound) = FitsSlot (cell_of bound)

-- cells, one for each field, that are cells for the fields' classes
pub record IsPieceOf (fields : List ℕ) (classes : List Class) (cells : List Cell) : Type 0 where
  pub count : length cells ≡ length fields
  pub each : (index : ℕ) → index < length fields → IsCellFor (class_at classes index) (cell_at cells index)

-- the cells begin a row of a set
pub record Begins (Has : List Cell → Type 0) (cells : List Cell) : Type 0 where
  pub rest : List Cell
  pub has : Has (cells ++ rest)

-- a cell with which they go on to one
abbrev pub Continues : (List Cell → Type 0) → List Cell → Cell → Type 0
Continues Has cells next = Begins Has (cells ++ next ∷ [])

-- the cells that a question admits: all, those that aren't below the row's own, or those above it
abbrev pub IsAskedFor : Question → Cell → Cell → Type 0
IsAskedFor Start own value = Unit {0}
IsAskedFor At own value = ¬ (CellLess value own)
IsAskedFor After own value = CellLess own value

-- v is the least cell of a set that is admitted
pub record IsLeastOf (Has Admitted : Cell → Type 0) (v : Cell) : Type 0 where
  pub has : Has v
  pub admitted : Admitted v
  pub least : (other : Cell) → Has other → Admitted other → ¬ (CellLess other v)

-- the cell becomes the least one, or there is none and it is as it was
abbrev pub IsLeastStep : (Cell → Type 0) → Question → Bool → Cell → Cell → Type 0
IsLeastStep Has question true old new = IsLeastOf Has (IsAskedFor question old) new
IsLeastStep Has question false old new =
    (new ≡ old) × ((other : Cell) → Has other → ¬ (IsAskedFor question old other))

-- no count of steps falls
pub record NoneFalls (old new : Counted) : Type 0 where
  pub domain : old.domain ≤ new.domain
  pub moves : old.moves ≤ new.moves

-- the first cell in which a new row differs from the old one is this one, and it is above the old one
pub record IsFirstChange (field : ℕ) (old new : List Cell) : Type 0 where
  pub within : field < length new
  pub same : (other : ℕ) → other < field → cell_at old other ≡ cell_at new other
  pub above : CellLess (cell_at old field) (cell_at new field)
