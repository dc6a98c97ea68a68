-- What a data file holds.
use Rattle.std.specs.Prelude.{ℕ, List}
use Rattle.helix_values.specs.declared.cell.Cell.{Cell}
use Rattle.helix_profile.specs.declared.field.Field.{Field}
use Rattle.helix_output.specs.Csv.{csv_text}
use Rattle.helix_output.specs.JsonLines.{json_text}
use Rattle.helix_output.specs.declared.format.Format.{Format}
use Rattle.helix_output.specs.declared.format.Format.TheVariants.{Csv, Json}

-- the text of rows in a format
abbrev pub data_text : Format → List Field → List (List Cell) → List ℕ
data_text Csv fields rows = csv_text fields rows
data_text Json fields rows = json_text fields rows
