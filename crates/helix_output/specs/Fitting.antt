-- Rows that fit their fields, and the texts of their cells.
use Rattle.std.specs.Prelude.{ℕ, List, [], ◌∷◌}
use Rattle.helix_values.specs.Universe.{InUniverse}
use Rattle.helix_values.specs.declared.cell.Cell.{Cell}
use Rattle.helix_values.specs.declared.cell.Cell.TheVariants as cell
use Rattle.helix_values.specs.declared.kind.Kind.{Kind}
use Rattle.helix_profile.specs.declared.field.Field.{Field}

-- null, also where the field isn't nullable, or a value of the kind's universe
abbrev pub FitsKind : Kind → Cell → Type 0
FitsKind kind cell.Null = Unit {0}
FitsKind kind value = InUniverse kind value

-- one cell for each field, which fits its kind
abbrev pub FitsFields : List Field → List Cell → Type 0
FitsFields [] [] = Unit {0}
FitsFields (field ∷ fields) (value ∷ row) = FitsKind field.kind value × FitsFields fields row
FitsFields fields row = ⊥

-- each row fits
abbrev pub AllFit : List Field → List (List Cell) → Type 0
AllFit fields [] = Unit {0}
AllFit fields (row ∷ rows) = FitsFields fields row × AllFit fields rows

-- the text of each cell of a row, by its field
abbrev pub texts_of : (Field → Cell → List ℕ) → List Field → List Cell → List (List ℕ)
texts_of text (field ∷ fields) (value ∷ row) = text field value ∷ texts_of text fields row
texts_of text fields row = []
