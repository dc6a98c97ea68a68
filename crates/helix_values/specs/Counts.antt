-- How many values of the widest universe of a class aren't below a mark. The classes have the widest universes of
-- truth values, decimals, texts over the Unicode alphabet, and date-times.
use Rattle.std.specs.Prelude.{◌≡◌, ℕ, zero, suc, ◌+◌, ◌-◌, ◌*◌, ◌^◌, min, ℤ, pos, negsuc, ◌+ℤ◌, nat_le, if◌then◌else◌, List, [], ◌∷◌, length}
use Rattle.std.specs.List.{All}
use Rattle.helix_base.specs.declared.alphabet.Alphabet.TheVariants.{Unicode}
use Rattle.helix_base.specs.Alphabet.{ranges_of, IsCharacterOf}
use Rattle.helix_values.specs.declared.kind.Kind.{Kind}
use Rattle.helix_values.specs.declared.kind.Kind.TheVariants as kind
use Rattle.helix_values.specs.declared.cell.Cell.{Cell}
use Rattle.helix_values.specs.declared.cell.Cell.TheVariants as cell
use Rattle.helix_values.specs.declared.mark.Mark.{Mark}
use Rattle.helix_values.specs.declared.mark.Mark.TheVariants.{Start, At, After}
use Rattle.helix_values.specs.Class.{Class, booleans, numbers, strings, moments, IsNullOr}
use Rattle.helix_values.specs.View.{cell_of}

-- the kind with the widest universe of a class
abbrev pub widest_kind : Class → Kind
widest_kind booleans = kind.Boolean
widest_kind numbers = kind.Decimal
widest_kind strings = kind.Text Unicode
widest_kind moments = kind.DateTime

-- how many of the codes in some ranges are below a code
abbrev pub codes_below : List (ℕ × ℕ) → ℕ → ℕ
codes_below [] code = 0
codes_below (range ∷ ranges) code = (min code (range.1 + 1) - range.0) + codes_below ranges code

-- the characters of the alphabet, and how many are below a code
abbrev pub characters : ℕ
characters = 1111999

-- how many characters of the alphabet are below a code
abbrev pub characters_below : ℕ → ℕ
characters_below code = codes_below (ranges_of Unicode) code

-- how many texts of the same length come before a text
unfoldable pub same_length_below : List ℕ → ℕ
same_length_below [] = 0
same_length_below (c ∷ cs) = characters_below c * characters ^ length cs + same_length_below cs

-- how many texts have fewer characters
unfoldable pub shorter_texts : ℕ → ℕ
shorter_texts zero = 0
shorter_texts (suc n) = shorter_texts n + characters ^ n

-- a whole number that is at least 0, as a natural one
abbrev pub natural : ℤ → ℕ
natural (pos n) = n
natural (negsuc n) = 0

-- how many values the widest universe has
abbrev pub values_of : Class → ℕ
values_of booleans = 2
values_of numbers = 2 * 10 ^ 35 + 1
values_of strings = shorter_texts 1001
values_of moments = 315537897600000

-- how many of them are below a cell, or below or equal to it
abbrev pub values_below : Class → Cell → ℕ
values_below class cell.Null = values_of class
values_below class (cell.Bool truth) = if truth then 1 else 0
values_below class (cell.Number units) = min (natural (units +ℤ pos (10 ^ 35))) (2 * 10 ^ 35 + 1)
values_below class (cell.Moment at) = min (natural at) 315537897600000
values_below class (cell.Text text) = if nat_le (length text) 1000
    then shorter_texts (length text) + same_length_below text else shorter_texts 1001

-- how many of them are not above a cell
abbrev pub values_up_to : Class → Cell → ℕ
values_up_to class cell.Null = values_of class
values_up_to class (cell.Bool truth) = if truth then 2 else 1
values_up_to class (cell.Number units) = values_below class (cell.Number (units +ℤ pos 1))
values_up_to class (cell.Moment at) = values_below class (cell.Moment (at +ℤ pos 1))
values_up_to class (cell.Text text) = values_below class (cell.Text text) + (if nat_le (length text) 1000 then 1 else 0)

-- how many values a mark leaves: those that it admits
abbrev pub values_left : Class → Mark → ℕ
values_left class Start = values_of class
values_left class (At bound) = values_of class - values_below class (cell_of bound)
values_left class (After bound) = values_of class - values_up_to class (cell_of bound)

-- the bound of a mark is null or a value of the class, a text over the alphabet
abbrev pub IsMarkBound : Class → Cell → Type 0
IsMarkBound class (cell.Text text) = (class ≡ strings) × All (IsCharacterOf Unicode) text
IsMarkBound class other = IsNullOr class other

-- a mark whose bound, if any, is null or a value of the class
abbrev pub IsMarkOf : Class → Mark → Type 0
IsMarkOf class Start = Unit {0}
IsMarkOf class (At bound) = IsMarkBound class (cell_of bound)
IsMarkOf class (After bound) = IsMarkBound class (cell_of bound)
