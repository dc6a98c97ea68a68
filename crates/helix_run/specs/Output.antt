-- The text of rows as CSV.
use Rattle.std.specs.Prelude.{ℕ, true, false, if◌then◌else◌, List, [], ◌∷◌, ◌++◌, map, flat_map, ◌==◌, Some, None, codes}
use Rattle.std.specs.List.{join_with_byte}
use Rattle.helix_run.specs.Rows.{Flag}

-- a double quote inside quotes is doubled (RFC 4180, section 2, rule 7)
abbrev pub doubled : ℕ → List ℕ
doubled byte = if byte == 34 then 34 ∷ 34 ∷ [] else byte ∷ []

-- a text between quotes
abbrev pub quoted : List ℕ → List ℕ
quoted text = 34 ∷ (flat_map doubled text ++ 34 ∷ [])

-- null is the empty text
abbrev pub flag_text : Flag → List ℕ
flag_text (Some true) = codes "true"
flag_text (Some false) = codes "false"
flag_text None = []

-- a line is its parts, joined by commas, and a line feed
abbrev pub line_of : List (List ℕ) → List ℕ
line_of parts = join_with_byte 44 parts ++ 10 ∷ []

-- the line of a row
abbrev pub row_text : List Flag → List ℕ
row_text row = line_of (map flag_text row)

-- the head, which is the quoted name, and then the rows
abbrev pub csv_text : List ℕ → List (List Flag) → List ℕ
csv_text name rows = line_of (quoted name ∷ []) ++ flat_map row_text rows
