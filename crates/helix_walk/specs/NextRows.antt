-- Lists of rows of which each is the next one.
use Rattle.std.specs.Prelude.{List, [], ◌∷◌, Option, Some}
use Rattle.helix_rows.specs.Parts.{IsNextRow}
use Rattle.helix_values.specs.declared.cell.Cell.{Cell}

-- the first row is the least one of a set above the start, and each other one the least above the one before it
abbrev pub AreNextRows : (List Cell → Type 0) → Option (List Cell) → List (List Cell) → Type 0
AreNextRows Good start [] = Unit {0}
AreNextRows Good start (row ∷ rows) = IsNextRow Good start row × AreNextRows Good (Some row) rows

-- where a list of rows above a start ends: at its last row, or at the start where it has none
abbrev pub end_of : Option (List Cell) → List (List Cell) → Option (List Cell)
end_of start [] = start
end_of start (row ∷ rows) = end_of (Some row) rows
