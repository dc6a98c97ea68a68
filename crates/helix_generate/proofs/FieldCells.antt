-- Cells of fields have their shape.
use Rattle.std.proofs.Common.{◌≡◌, suc, List, [], ◌∷◌, length, refl, ap}
use Rattle.std.proofs.lemmas.List.Elements.{All-from_recursion, recursion_from_All}
use Rattle.std.specs.List.{All, AllByRecursion}
use Rattle.helix_base.specs.Alphabet.{IsCharacterOf}
use Rattle.helix_base.specs.declared.alphabet.Alphabet.TheVariants.{Unicode}
use Rattle.helix_profile.specs.Good.{AreCellsOf, HasShape, IsCellOf, IsShortIfText}
use Rattle.helix_profile.specs.declared.field.Field.{Field}
use Rattle.helix_values.specs.Class.{Class, IsNullOr, booleans, class_of_kind, moments, numbers, strings}
use Rattle.helix_values.specs.Counts.{widest_kind}
use Rattle.helix_values.specs.Universe.{InUniverse}
use Rattle.helix_values.specs.UniverseLaws.{in_widest}
use Rattle.helix_values.specs.declared.kind.Kind.{Kind}
use Rattle.helix_values.specs.Slot.{FitsSlot}
use Rattle.helix_values.specs.declared.cell.Cell.{Cell}
use Rattle.helix_values.specs.declared.cell.Cell.TheVariants as cell

cell_shape : (class : Class) (v : Cell) → InUniverse (widest_kind class) v → IsNullOr class v × IsShortIfText v
cell_shape booleans (cell.Bool b) within = (refl, tt)
cell_shape numbers (cell.Number n) within = (refl, tt)
cell_shape moments (cell.Moment at) within = (refl, tt)
cell_shape strings (cell.Text text) within = (refl, (within.0, recursion_from_All (IsCharacterOf Unicode) text within.1))
cell_shape booleans cell.Null within = absurd within
cell_shape booleans (cell.Number n) within = absurd within
cell_shape booleans (cell.Moment at) within = absurd within
cell_shape booleans (cell.Text text) within = absurd within
cell_shape numbers cell.Null within = absurd within
cell_shape numbers (cell.Bool b) within = absurd within
cell_shape numbers (cell.Moment at) within = absurd within
cell_shape numbers (cell.Text text) within = absurd within
cell_shape moments cell.Null within = absurd within
cell_shape moments (cell.Bool b) within = absurd within
cell_shape moments (cell.Number n) within = absurd within
cell_shape moments (cell.Text text) within = absurd within
cell_shape strings cell.Null within = absurd within
cell_shape strings (cell.Bool b) within = absurd within
cell_shape strings (cell.Number n) within = absurd within
cell_shape strings (cell.Moment at) within = absurd within

value_shape : (k : Kind) (v : Cell) → InUniverse k v → IsNullOr (class_of_kind k) v × IsShortIfText v
value_shape k v within = cell_shape (class_of_kind k) v (in_widest k v within)

field_shape : (field : Field) (v : Cell) → IsCellOf field v → IsNullOr (class_of_kind field.kind) v × IsShortIfText v
field_shape field cell.Null is = (tt, tt)
field_shape field (cell.Bool b) is = value_shape field.kind (cell.Bool b) is
field_shape field (cell.Number n) is = value_shape field.kind (cell.Number n) is
field_shape field (cell.Moment at) is = value_shape field.kind (cell.Moment at) is
field_shape field (cell.Text text) is = value_shape field.kind (cell.Text text) is

pub cells_shape : (fields : List Field) (row : List Cell) → AreCellsOf fields row → HasShape fields row
cells_shape [] [] cells = tt
cells_shape (field ∷ fields) (v ∷ row) cells =
    let shape : IsNullOr (class_of_kind field.kind) v × IsShortIfText v = field_shape field v cells.0 in
    (shape.0, shape.1, cells_shape fields row cells.1)
cells_shape [] (v ∷ row) cells = absurd cells
cells_shape (field ∷ fields) [] cells = absurd cells

slot_fits : (v : Cell) → IsShortIfText v → FitsSlot v
slot_fits cell.Null short = tt
slot_fits (cell.Bool b) short = tt
slot_fits (cell.Number n) short = tt
slot_fits (cell.Moment at) short = tt
slot_fits (cell.Text text) short = short.0

slots_fit : (fields : List Field) (row : List Cell) → HasShape fields row → AllByRecursion FitsSlot row
slots_fit [] [] shape = tt
slots_fit (field ∷ fields) (v ∷ row) shape = (slot_fits v shape.1, slots_fit fields row shape.2)
slots_fit [] (v ∷ row) shape = absurd shape
slots_fit (field ∷ fields) [] shape = absurd shape

pub row_fits : (fields : List Field) (row : List Cell) → AreCellsOf fields row → All FitsSlot row
row_fits fields row cells = All-from_recursion FitsSlot row (slots_fit fields row (cells_shape fields row cells))

pub row_count : (fields : List Field) (row : List Cell) → AreCellsOf fields row → length row ≡ length fields
row_count [] [] cells = refl
row_count (field ∷ fields) (v ∷ row) cells = ap suc (row_count fields row cells.1)
row_count [] (v ∷ row) cells = absurd cells
row_count (field ∷ fields) [] cells = absurd cells
