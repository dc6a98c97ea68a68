-- The line of a row in a line buffer.
use Rattle.std.specs.Prelude.{Bool, List}
use Rattle.helix_output.specs.JsonLines.{json_row_line}
use Rattle.helix_output.specs.Line.{Line, line_of, line_of_row}
use Rattle.helix_output.specs.declared.format.Format.{Format}
use Rattle.helix_output.specs.declared.format.Format.TheVariants.{Csv, Json}
use Rattle.helix_profile.specs.declared.field.Field.{Field}
use Rattle.helix_values.specs.declared.cell.Cell.{Cell}

-- the line of a row; of CSV it also tells where the cells end
abbrev pub line_in : Format → Bool → List Field → List Cell → Line
line_in Csv first fields row = line_of_row fields row
line_in Json first fields row = line_of fields (json_row_line first fields row)
