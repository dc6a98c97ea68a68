-- What a line buffer holds.
use Rattle.std.specs.Prelude.{◌≡◌, ℕ, zero, suc, ◌+◌, List, [], ◌∷◌, length, take}
use Rattle.helix_values.specs.declared.cell.Cell.{Cell}
use Rattle.helix_profile.specs.declared.field.Field.{Field}
use Rattle.helix_output.specs.Csv.{csv_cells, csv_row_line}

-- the fields, the bytes of a line, and where each cell ends in them where they are the CSV line of a row
pub record Line : Type 0 where
  pub fields : List Field
  pub bytes : List ℕ
  pub ends : List ℕ

-- where each part ends, of parts that are joined by commas and begin at an offset
abbrev pub ends_from : ℕ → List (List ℕ) → List ℕ
ends_from at [] = []
ends_from at (part ∷ parts) = (at + length part) ∷ ends_from (suc (at + length part)) parts

-- the CSV line of a row
abbrev pub line_of_row : List Field → List Cell → Line
line_of_row fields row = record {
  fields = fields;
  bytes = csv_row_line fields row;
  ends = ends_from 0 (csv_cells fields row);
}

-- a line that is no CSV line of a row
abbrev pub line_of : List Field → List ℕ → Line
line_of fields bytes = record { fields = fields; bytes = bytes; ends = [] }

-- the line is that of a row which agrees with this one on the first cells; without any, it may be any line
abbrev pub AgreesOn : ℕ → Line → List Cell → Type 0
AgreesOn zero line row = Unit {0}
AgreesOn (suc n) line row =
    (before : List Cell) × (line ≡ line_of_row line.fields before) × (take (suc n) before ≡ take (suc n) row)
