-- The order of cells and of rows.
use Rattle.std.specs.Prelude.{◌≡◌, ℕ, List, length}
use Rattle.std.specs.declared.cmp.Ordering.{Ordering}
use Rattle.std.specs.declared.cmp.Ordering.TheVariants.{Less}
use Rattle.std.specs.Ordering.{nat_cmp, int_cmp, bool_cmp, ordering_then}
use Rattle.std.specs.Cmp.Lexicographic.{slice_cmp}
use Rattle.helix_values.specs.declared.cell.Cell.{Cell}
use Rattle.helix_values.specs.declared.cell.Cell.TheVariants as cell

-- the shorter text first, and texts of one length by their code points
abbrev pub text_cmp : List ℕ → List ℕ → Ordering
text_cmp a b = ordering_then (nat_cmp (length a) (length b)) (slice_cmp nat_cmp a b)

-- null is last. Values of two classes are never in one field; a rank for each class makes the order total.
abbrev pub rank_of : Cell → ℕ
rank_of (cell.Bool truth) = 0
rank_of (cell.Number units) = 1
rank_of (cell.Moment at) = 2
rank_of (cell.Text codes) = 3
rank_of cell.Null = 4

-- false before true, the smaller number first, the earlier moment first, texts by length and then by code points,
-- null last
abbrev pub cell_cmp : Cell → Cell → Ordering
cell_cmp (cell.Bool a) (cell.Bool b) = bool_cmp a b
cell_cmp (cell.Number a) (cell.Number b) = int_cmp a b
cell_cmp (cell.Moment a) (cell.Moment b) = int_cmp a b
cell_cmp (cell.Text a) (cell.Text b) = text_cmp a b
cell_cmp a b = nat_cmp (rank_of a) (rank_of b)

-- the first cell comes before the second
abbrev pub CellLess : Cell → Cell → Type 0
CellLess a b = cell_cmp a b ≡ Less

-- rows are ordered by the first field in which they differ
abbrev pub row_cmp : List Cell → List Cell → Ordering
row_cmp a b = slice_cmp cell_cmp a b

-- the first row comes before the second
abbrev pub RowLess : List Cell → List Cell → Type 0
RowLess a b = row_cmp a b ≡ Less
