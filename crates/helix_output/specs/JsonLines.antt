-- Rows as a list of JSON objects, one a line, in bytes. `[` is 91, `]` 93, `{` 123, `}` 125, `:` 58, a line feed 10.
use Rattle.std.specs.Prelude.{ℕ, Bool, true, false, List, [], ◌∷◌, ◌++◌, codes, encode_utf8_all}
use Rattle.serde_json.specs.Data.{string}
use Rattle.serde_json.specs.Written.{compact_text}
use Rattle.helix_values.specs.declared.cell.Cell.{Cell}
use Rattle.helix_values.specs.declared.cell.Cell.TheVariants as cell
use Rattle.helix_texts.specs.Texts.{cell_text, moment_text}
use Rattle.helix_profile.specs.declared.field.Field.{Field}
use Rattle.helix_output.specs.Csv.{joined}
use Rattle.helix_output.specs.Fitting.{texts_of}

-- a text as `serde_json` writes it: its UTF-8 between quotes, with the shortest escapes
abbrev pub json_string : List ℕ → List ℕ
json_string text = compact_text (string (encode_utf8_all text))

-- a text as a string, a moment as its written form between quotes, and any other value as its written form
abbrev pub json_cell : Field → Cell → List ℕ
json_cell field cell.Null = codes "null"
json_cell field (cell.Text text) = json_string text
json_cell field (cell.Moment at) = 34 ∷ (moment_text field.kind at ++ 34 ∷ [])
json_cell field value = cell_text field.kind value

-- the name of a member, with its colon
abbrev pub json_name : Field → List ℕ
json_name field = json_string field.name ++ 58 ∷ []

-- a member: the name and the cell
abbrev pub json_member : Field → Cell → List ℕ
json_member field value = json_name field ++ json_cell field value

-- the members of a row's object, every field in declared order
abbrev pub json_members : List Field → List Cell → List (List ℕ)
json_members fields row = texts_of json_member fields row

-- what comes before a row: a line feed, and a comma before that unless the row is the first
abbrev pub json_break : Bool → List ℕ
json_break true = 10 ∷ []
json_break false = 44 ∷ 10 ∷ []

-- a row's object, with what comes before it
abbrev pub json_row_line : Bool → List Field → List Cell → List ℕ
json_row_line first fields row = json_break first ++ 123 ∷ (joined (json_members fields row) ++ 125 ∷ [])

-- the rows, of which the first may be that of the whole list
abbrev pub json_rows : Bool → List Field → List (List Cell) → List ℕ
json_rows first fields [] = []
json_rows first fields (row ∷ rows) = json_row_line first fields row ++ json_rows false fields rows

-- a bracket opens the list
abbrev pub json_opening : List ℕ
json_opening = 91 ∷ []

-- a line with a bracket closes it
abbrev pub json_closing : List ℕ
json_closing = 10 ∷ 93 ∷ 10 ∷ []

-- the whole list
abbrev pub json_text : List Field → List (List Cell) → List ℕ
json_text fields rows = json_opening ++ (json_rows true fields rows ++ json_closing)
