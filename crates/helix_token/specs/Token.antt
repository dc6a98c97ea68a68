-- The text of a token: JSON that names a run and one row. `=` is 61, a line feed 10.
use Rattle.std.specs.Prelude.{◌≡◌, ◌⊎◌, ℕ, List, [], ◌∷◌, ◌++◌, codes, encode_utf8_all}
use Rattle.hex.specs.Hex.{encode_lower}
use Rattle.serde_json.specs.Data.{Data, string, array, object, Items, no_items, item, no_members, member}
use Rattle.serde_json.specs.Written.{compact_text}
use Rattle.helix_values.specs.declared.cell.Cell.{Cell}
use Rattle.helix_values.specs.declared.cell.Cell.TheVariants as cell
use Rattle.helix_texts.specs.Texts.{cell_text}
use Rattle.helix_profile.specs.Good.{AreCellsOf}
use Rattle.helix_profile.specs.declared.field.Field.{Field}
use Rattle.helix_output.specs.Fitting.{texts_of}

-- the string of a cell: `n` for null, else `=` and the written form
abbrev pub cell_string : Field → Cell → List ℕ
cell_string field cell.Null = codes "n"
cell_string field value = 61 ∷ cell_text field.kind value

-- the strings of a row
abbrev pub cell_strings : List Field → List Cell → List (List ℕ)
cell_strings fields row = texts_of cell_string fields row

-- texts as a list of JSON strings
abbrev pub string_items : List (List ℕ) → Items
string_items [] = no_items
string_items (text ∷ texts) = item (string (encode_utf8_all text)) (string_items texts)

-- the object of a token: its format, the identity as hexadecimal digits in lower case, and the strings of a row
abbrev pub token_object : List ℕ → List (List ℕ) → Data
token_object identity strings =
    object (member (codes "format") (string (codes "helix-token-1"))
    (member (codes "identity") (string (encode_lower identity))
    (member (codes "row") (array (string_items strings)) no_members)))

-- the object as `serde_json` writes it, with no space
unfoldable pub token_of_strings : List ℕ → List (List ℕ) → List ℕ
token_of_strings identity strings = compact_text (token_object identity strings)

-- the token's text of a row
abbrev pub token_text : List ℕ → List Field → List Cell → List ℕ
token_text identity fields row = token_of_strings identity (cell_strings fields row)

-- a text, alone or with one line feed at its end
abbrev pub HoldsText : List ℕ → List ℕ → Type 0
HoldsText bytes text = (bytes ≡ text) ⊎ (bytes ≡ text ++ 10 ∷ [])

-- the bytes are the token of a row whose cells are those of the fields
pub record IsTokenOf (bytes identity : List ℕ) (fields : List Field) (row : List Cell) : Type 0 where
  pub cells : AreCellsOf fields row
  pub text : HoldsText bytes (token_text identity fields row)
