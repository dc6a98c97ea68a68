-- Rows as CSV (RFC 4180), in bytes. A double quote is 34, a comma 44, a line feed 10.
use Rattle.std.specs.Prelude.{ℕ, if◌then◌else◌, List, [], ◌∷◌, ◌++◌, map, flat_map, ◌==◌, encode_utf8_all}
use Rattle.std.specs.List.{join_with_byte}
use Rattle.helix_values.specs.declared.cell.Cell.{Cell}
use Rattle.helix_values.specs.declared.cell.Cell.TheVariants as cell
use Rattle.helix_texts.specs.Texts.{cell_text}
use Rattle.helix_profile.specs.declared.field.Field.{Field}
use Rattle.helix_output.specs.Fitting.{texts_of}

-- a double quote inside quotes is doubled (section 2, rule 7)
abbrev pub doubled : ℕ → List ℕ
doubled byte = if byte == 34 then 34 ∷ 34 ∷ [] else byte ∷ []

-- the UTF-8 of a text, between quotes
abbrev pub csv_string : List ℕ → List ℕ
csv_string text = 34 ∷ (flat_map doubled (encode_utf8_all text) ++ 34 ∷ [])

-- a text always has quotes; any other value is its written form, whose characters are all ASCII; null is empty
abbrev pub csv_cell : Field → Cell → List ℕ
csv_cell field (cell.Text text) = csv_string text
csv_cell field value = cell_text field.kind value

-- the cells of a row
abbrev pub csv_cells : List Field → List Cell → List (List ℕ)
csv_cells fields row = texts_of csv_cell fields row

-- parts with a comma between two of them
abbrev pub joined : List (List ℕ) → List ℕ
joined parts = join_with_byte 44 parts

-- a line is its parts, joined by commas, and a line feed
abbrev pub csv_line : List (List ℕ) → List ℕ
csv_line parts = joined parts ++ 10 ∷ []

-- the first line has the names of the fields
abbrev pub csv_head_line : List Field → List ℕ
csv_head_line fields = csv_line (map (λ field. csv_string field.name) fields)

-- the line of a row
abbrev pub csv_row_line : List Field → List Cell → List ℕ
csv_row_line fields row = csv_line (csv_cells fields row)

-- the head and a line for each row
abbrev pub csv_text : List Field → List (List Cell) → List ℕ
csv_text fields rows = csv_head_line fields ++ flat_map (csv_row_line fields) rows
