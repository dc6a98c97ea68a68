-- The four classes of values. Values of one class are compared with each other, and no others.
use Rattle.std.specs.Prelude.{◌≡◌, Bool, true, false, IsTrue, Option, None, Some, List, [], ◌∷◌}
use Rattle.helix_values.specs.declared.kind.Kind.{Kind}
use Rattle.helix_values.specs.declared.kind.Kind.TheVariants as kind
use Rattle.helix_values.specs.declared.cell.Cell.{Cell}
use Rattle.helix_values.specs.declared.cell.Cell.TheVariants as cell

-- truth values, numbers, texts, moments
pub data Class : Type 0 where
  booleans : Class
  numbers : Class
  strings : Class
  moments : Class

-- the class of the values of a kind
abbrev pub class_of_kind : Kind → Class
class_of_kind kind.Boolean = booleans
class_of_kind kind.Integer = numbers
class_of_kind kind.Decimal = numbers
class_of_kind (kind.Text alphabet) = strings
class_of_kind kind.Date = moments
class_of_kind kind.DateTime = moments
class_of_kind (kind.Code code) = strings

-- the class of a cell; null has none
abbrev pub class_of : Cell → Option Class
class_of cell.Null = None
class_of (cell.Bool truth) = Some booleans
class_of (cell.Number units) = Some numbers
class_of (cell.Moment at) = Some moments
class_of (cell.Text codes) = Some strings

-- a cell is null or a value of the class
abbrev pub IsNullOr : Class → Cell → Type 0
IsNullOr class cell.Null = Unit {0}
IsNullOr class value = class_of value ≡ Some class

-- two cells can be compared: one of them is null, or both are values of one class
abbrev pub are_comparable : Cell → Cell → Bool
are_comparable cell.Null b = true
are_comparable a cell.Null = true
are_comparable (cell.Bool a) (cell.Bool b) = true
are_comparable (cell.Number a) (cell.Number b) = true
are_comparable (cell.Moment a) (cell.Moment b) = true
are_comparable (cell.Text a) (cell.Text b) = true
are_comparable a b = false

-- the same, as a fact
abbrev pub AreComparable : Cell → Cell → Type 0
AreComparable a b = IsTrue (are_comparable a b)

-- two rows can be compared: they have as many cells, and those of each field can be compared
abbrev pub AreComparableRows : List Cell → List Cell → Type 0
AreComparableRows [] [] = Unit {0}
AreComparableRows (a ∷ row) (b ∷ other) = AreComparable a b × AreComparableRows row other
AreComparableRows row other = ⊥
