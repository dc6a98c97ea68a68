-- The text of a data file: what opens it, its lines and what closes it.
use Rattle.std.proofs.Common.{◌≡◌, ℕ, Bool, true, false, List, [], ◌∷◌, ◌++◌, refl, sym, ◌∙◌, ap, append_assoc, append-nil}
use Rattle.std.specs.Prelude.{flat_map}
use Rattle.helix_output.specs.Csv.{csv_head_line, csv_row_line}
use Rattle.helix_output.specs.DataText.{data_text}
use Rattle.helix_output.specs.JsonLines.{json_closing, json_opening, json_rows, json_row_line}
use Rattle.helix_output.specs.declared.format.Format.{Format}
use Rattle.helix_output.specs.declared.format.Format.TheVariants.{Csv, Json}
use Rattle.helix_profile.specs.declared.field.Field.{Field}
use Rattle.helix_values.specs.declared.cell.Cell.{Cell}
use Rattle.helix_writing.specs.Inner.Texts.{closing, line_for, lines_from, opening}

csv_lines : (first : Bool) (fields : List Field) (rows : List (List Cell))
    → flat_map (csv_row_line fields) rows ≡ lines_from Csv first fields rows
csv_lines first fields [] = refl
csv_lines first fields (row ∷ rows) = ap (λ bytes. csv_row_line fields row ++ bytes) (csv_lines false fields rows)

json_lines : (first : Bool) (fields : List Field) (rows : List (List Cell))
    → json_rows first fields rows ≡ lines_from Json first fields rows
json_lines first fields [] = refl
json_lines first fields (row ∷ rows) =
    ap (λ bytes. json_row_line first fields row ++ bytes) (json_lines false fields rows)

pub text_parts : (format : Format) (fields : List Field) (rows : List (List Cell))
    → data_text format fields rows ≡ opening format fields ++ (lines_from format true fields rows ++ closing format)
text_parts Csv fields rows =
    ap (λ bytes. csv_head_line fields ++ bytes) (csv_lines true fields rows ∙ sym (append-nil (lines_from Csv true fields
    rows)))
text_parts Json fields rows =
    ap (λ bytes. json_opening ++ (bytes ++ json_closing)) (json_lines true fields rows)

-- the lines of first rows begin those of all
pub lines_begin : (format : Format) (first : Bool) (fields : List Field) (rows rest : List (List Cell))
    → (more : List ℕ) × (lines_from format first fields (rows ++ rest) ≡ lines_from format first fields rows ++ more)
lines_begin format first fields [] rest = (lines_from format first fields rest, refl)
lines_begin format first fields (row ∷ rows) rest =
    let later : (more : List ℕ) × (lines_from format false fields (rows ++ rest)
    ≡ lines_from format false fields rows ++ more) = lines_begin format false fields rows rest in (
      later.0,
      ap (λ bytes. line_for format first fields row ++ bytes) later.1
          ∙ sym (append_assoc (line_for format first fields row) (lines_from format false fields rows) later.0),
    )

-- so what opens the file and the lines of first rows begin the text
pub text_begins : (format : Format) (fields : List Field) (rows rest : List (List Cell))
    → (more : List ℕ) × (data_text format fields (rows ++ rest)
    ≡ (opening format fields ++ lines_from format true fields rows) ++ more)
text_begins format fields rows rest =
    let later : (more : List ℕ) × (lines_from format true fields (rows ++ rest)
    ≡ lines_from format true fields rows ++ more) = lines_begin format true fields rows rest in (
      later.0 ++ closing format,
      text_parts format fields (rows ++ rest)
          ∙ ap (λ bytes. opening format fields ++ (bytes ++ closing format)) later.1
          ∙ ap (λ bytes. opening format fields ++ bytes) (append_assoc (lines_from format true fields rows) later.0
          (closing format))
          ∙ sym (append_assoc (opening format fields) (lines_from format true fields rows) (later.0 ++ closing format)),
    )
