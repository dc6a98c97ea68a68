-- The parts of the text of a data file: what opens it, a line for each row, what closes it.
use Rattle.std.specs.Prelude.{ℕ, Bool, false, List, [], ◌∷◌, ◌++◌}
use Rattle.helix_output.specs.Csv.{csv_head_line, csv_row_line}
use Rattle.helix_output.specs.JsonLines.{json_closing, json_opening, json_row_line}
use Rattle.helix_output.specs.declared.format.Format.{Format}
use Rattle.helix_output.specs.declared.format.Format.TheVariants.{Csv, Json}
use Rattle.helix_profile.specs.declared.field.Field.{Field}
use Rattle.helix_values.specs.declared.cell.Cell.{Cell}

abbrev pub opening : Format → List Field → List ℕ
opening Csv fields = csv_head_line fields
opening Json fields = json_opening

-- the line of a row, the first one or a later one
abbrev pub line_for : Format → Bool → List Field → List Cell → List ℕ
line_for Csv first fields row = csv_row_line fields row
line_for Json first fields row = json_row_line first fields row

-- the lines of rows, of which the first may be that of the whole file
abbrev pub lines_from : Format → Bool → List Field → List (List Cell) → List ℕ
lines_from format first fields [] = []
lines_from format first fields (row ∷ rows) = line_for format first fields row ++ lines_from format false fields rows

abbrev pub closing : Format → List ℕ
closing Csv = []
closing Json = json_closing
