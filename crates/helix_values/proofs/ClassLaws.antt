-- Values of a universe are of one class, and those of one class can be compared.
use Rattle.std.proofs.Common.{◌≡◌, Some, refl}
use Rattle.helix_values.specs.declared.kind.Kind.{Kind}
use Rattle.helix_values.specs.declared.kind.Kind.TheVariants as kind
use Rattle.helix_values.specs.declared.cell.Cell.{Cell}
use Rattle.helix_values.specs.declared.cell.Cell.TheVariants as cell
use Rattle.helix_values.specs.Class.{Class, class_of, class_of_kind, IsNullOr, AreComparable}
use Rattle.helix_values.specs.Universe.{InUniverse}

pub class_of_value : (k : Kind) (c : Cell) → InUniverse k c → class_of c ≡ Some (class_of_kind k)
class_of_value kind.Boolean (cell.Bool truth) within = refl
class_of_value kind.Integer (cell.Number units) within = refl
class_of_value kind.Decimal (cell.Number units) within = refl
class_of_value (kind.Text alphabet) (cell.Text codes) within = refl
class_of_value kind.Date (cell.Moment at) within = refl
class_of_value kind.DateTime (cell.Moment at) within = refl
class_of_value (kind.Code code) (cell.Text codes) within = refl
class_of_value other value within = absurd within

pub comparable_in_class : (class : Class) (a b : Cell) → IsNullOr class a → IsNullOr class b → AreComparable a b
comparable_in_class class cell.Null b of_a of_b = refl
comparable_in_class class (cell.Bool a) cell.Null of_a of_b = refl
comparable_in_class class (cell.Number a) cell.Null of_a of_b = refl
comparable_in_class class (cell.Moment a) cell.Null of_a of_b = refl
comparable_in_class class (cell.Text a) cell.Null of_a of_b = refl
comparable_in_class class (cell.Bool a) (cell.Bool b) of_a of_b = refl
comparable_in_class class (cell.Number a) (cell.Number b) of_a of_b = refl
comparable_in_class class (cell.Moment a) (cell.Moment b) of_a of_b = refl
comparable_in_class class (cell.Text a) (cell.Text b) of_a of_b = refl
comparable_in_class class a b of_a of_b = cc
