-- The strings of a row, one by one.
use Rattle.std.proofs.Common.{◌≡◌, ℕ, ◌+◌, ◌<◌, ◌≤◌, List, [], ◌∷◌, ◌++◌, length, get_or, take, sym, ◌∙◌, ap₂, arith}
use Rattle.std.proofs.lemmas.List.{take_more, take_all}
use Rattle.helix_values.specs.declared.cell.Cell.{Cell}
use Rattle.helix_values.specs.declared.cell.Cell.TheVariants as cell
use Rattle.helix_profile.specs.declared.field.Field.{Field}
use Rattle.helix_output.specs.Fitting.{FitsFields}
use Rattle.helix_output.proofs.RowCells.{length-texts, texts-at}
use Rattle.helix_token.specs.Token.{cell_string, cell_strings}

-- one string more
pub strings_further : (fields : List Field) (row : List Cell) (i : ℕ) (field : Field) (v : Cell)
    (strings next : List (List ℕ)) (text : List ℕ) → i < length fields → FitsFields fields row
    → field ≡ get_or fields i field → v ≡ get_or row i cell.Null → strings ≡ take i (cell_strings fields row)
    → text ≡ cell_string field v → next ≡ strings ++ text ∷ [] → next ≡ take (i + 1) (cell_strings fields row)
strings_further fields row i field v strings next text within fits of_field of_v so_far is more =
    more
    ∙ ap₂ (λ (ts : List (List ℕ)) (t : List ℕ). ts ++ t ∷ []) so_far
    (is ∙ texts-at cell_string fields row i field v within fits of_field of_v)
    ∙ sym (take_more (cell_strings fields row) i [] (omega (arith, within, length-texts cell_string fields row fits)))

pub strings_whole : (fields : List Field) (row : List Cell) (i : ℕ) (strings : List (List ℕ)) → length fields ≤ i
    → FitsFields fields row → strings ≡ take i (cell_strings fields row) → strings ≡ cell_strings fields row
strings_whole fields row i strings past fits so_far =
    so_far ∙ take_all i (cell_strings fields row) (omega (arith, past, length-texts cell_string fields row fits))
