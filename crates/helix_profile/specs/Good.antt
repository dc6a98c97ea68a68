-- The shape of a row, and the good rows of a profile.
use Rattle.std.specs.Prelude.{◌≡◌, ◌≤◌, true, List, [], ◌∷◌, length}
use Rattle.std.specs.List.{AllByRecursion}
use Rattle.helix_base.specs.Alphabet.{IsCharacterOf}
use Rattle.helix_base.specs.declared.alphabet.Alphabet.TheVariants.{Unicode}
use Rattle.helix_values.specs.Class.{IsNullOr, class_of_kind}
use Rattle.helix_values.specs.Universe.{InUniverse}
use Rattle.helix_values.specs.declared.cell.Cell.{Cell}
use Rattle.helix_values.specs.declared.cell.Cell.TheVariants as cell
use Rattle.helix_profile.specs.Content.{Content}
use Rattle.helix_profile.specs.Satisfaction.{AllSatisfied}
use Rattle.helix_profile.specs.declared.field.Field.{Field}

-- a text of at most 1,000 characters of Unicode; what is no text is free
abbrev pub IsShortIfText : Cell → Type 0
IsShortIfText (cell.Text codes) = (length codes ≤ 1000) × AllByRecursion (IsCharacterOf Unicode) codes
IsShortIfText other = Unit {0}

-- a row of the right shape: for each field null or a value of its class, which needn't be in its universe
abbrev pub HasShape : List Field → List Cell → Type 0
HasShape [] [] = Unit {0}
HasShape (field ∷ fields) (cell ∷ row) = IsNullOr (class_of_kind field.kind) cell × IsShortIfText cell
    × HasShape fields row
HasShape fields row = ⊥

-- a cell of a field: a value of its universe, or null where the field is nullable
abbrev pub IsCellOf : Field → Cell → Type 0
IsCellOf field cell.Null = field.nullable ≡ true
IsCellOf field value = InUniverse field.kind value

-- one cell for each field
abbrev pub AreCellsOf : List Field → List Cell → Type 0
AreCellsOf [] [] = Unit {0}
AreCellsOf (field ∷ fields) (cell ∷ row) = IsCellOf field cell × AreCellsOf fields row
AreCellsOf fields row = ⊥

-- a good row: its cells are those of the fields, and it satisfies every constraint
pub record IsGood (profile : Content) (row : List Cell) : Type 0 where
  pub cells : AreCellsOf profile.fields row
  pub satisfied : AllSatisfied profile.constraints row true
