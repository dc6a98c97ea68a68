-- Laws of lines, for callers that write rows one after the other.
use Rattle.std.specs.Prelude.{◌≡◌, ℕ, zero, suc, List, take}
use Rattle.helix_values.specs.declared.cell.Cell.{Cell}
use Rattle.helix_output.specs.Line.{Line, line_of_row, AgreesOn}

-- the line of one row agrees with another row where the rows do
pub agrees_from : (n : ℕ) (line : Line) (before row : List Cell) → line ≡ line_of_row line.fields before
    → take n before ≡ take n row → AgreesOn n line row
agrees_from zero line before row is same = tt
agrees_from (suc n) line before row is same = (before, is, same)
