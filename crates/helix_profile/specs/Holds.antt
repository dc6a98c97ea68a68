-- What a test says of a value, and a relation of two values. Null has no place here.
use Rattle.std.specs.Prelude.{◌≡◌, ℕ, ◌<◌, ℤ, ◌<ℤ◌, ◌≤ℤ◌, List, length, Contains, false}
use Rattle.helix_expr.specs.Matching.{Matches, ContainsMatch}
use Rattle.helix_values.specs.OnGrid.{IsOnGrid}
use Rattle.helix_ladders.specs.Shift.{shifted}
use Rattle.helix_values.specs.declared.cell.Cell.{Cell}
use Rattle.helix_values.specs.declared.cell.Cell.TheVariants as cell
use Rattle.helix_ladders.specs.declared.offset.Offset.{Offset}
use Rattle.helix_ladders.specs.declared.offset.Offset.TheVariants as offset
use Rattle.helix_profile.specs.declared.relation.Compare.{Compare}
use Rattle.helix_profile.specs.declared.relation.Compare.TheVariants as compare
use Rattle.helix_profile.specs.declared.relation.Relation.{Relation}
use Rattle.helix_profile.specs.declared.test.Test.{Test}
use Rattle.helix_profile.specs.declared.test.Test.TheVariants as test

-- how two whole numbers compare
abbrev pub Compares : Compare → ℤ → ℤ → Type 0
Compares compare.Equal x y = x ≡ y
Compares compare.Above x y = y <ℤ x
Compares compare.AtLeast x y = y ≤ℤ x
Compares compare.Below x y = x <ℤ y
Compares compare.AtMost x y = x ≤ℤ y

-- how two numbers, or two moments, compare
abbrev pub CellsCompare : Compare → Cell → Cell → Type 0
CellsCompare how (cell.Number x) (cell.Number y) = Compares how x y
CellsCompare how (cell.Moment x) (cell.Moment y) = Compares how x y
CellsCompare how x y = ⊥

-- a text of which a fact holds
abbrev pub IsTextWith : (List ℕ → Type 0) → Cell → Type 0
IsTextWith Fact (cell.Text codes) = Fact codes
IsTextWith Fact other = ⊥

-- what a test says of a value, a line for each keyword
abbrev pub Holds : Test → Cell → Type 0
Holds (test.IsNull wanted) value = wanted ≡ false
Holds (test.EqualTo operand) value = value ≡ operand
Holds (test.InSet members) value = Contains members value
Holds (test.Matching regex) value = IsTextWith (λ codes. Matches regex.expr codes) value
Holds (test.Containing regex) value = IsTextWith (λ codes. ContainsMatch regex codes) value
Holds (test.OfLength count) value = IsTextWith (λ codes. length codes ≡ count) value
Holds (test.LongerThan count) value = IsTextWith (λ codes. count < length codes) value
Holds (test.ShorterThan count) value = IsTextWith (λ codes. length codes < count) value
Holds (test.Above bound) value = CellsCompare compare.Above value bound
Holds (test.AtLeast bound) value = CellsCompare compare.AtLeast value bound
Holds (test.Below bound) value = CellsCompare compare.Below value bound
Holds (test.AtMost bound) value = CellsCompare compare.AtMost value bound
Holds (test.OnGrid level) value = IsOnGrid level value

-- how a number compares with another one, shifted by units; no other offset shifts a number
abbrev pub NumbersRelated : Compare → Offset → ℤ → ℤ → Type 0
NumbersRelated how (offset.Plain units) x y = Compares how x (shifted (offset.Plain units) y)
NumbersRelated how other x y = ⊥

-- What a relation says of the values of its left and its right field: numbers and moments are compared with the
-- shifted one, in whole numbers without a bound, and truth values and texts are equal.
abbrev pub Related : Relation → Cell → Cell → Type 0
Related relation (cell.Number x) (cell.Number y) = NumbersRelated relation.compare relation.offset x y
Related relation (cell.Moment x) (cell.Moment y) = Compares relation.compare x (shifted relation.offset y)
Related relation x y = x ≡ y
