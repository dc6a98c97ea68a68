-- Names and members, one more of them.
use Rattle.std.proofs.Common.{◌≡◌, ℕ, ◌+◌, ◌<◌, List, [], ◌++◌, length, get_or, map, take, sym, ◌∙◌, ap, arith, append_assoc}
use Rattle.std.proofs.lemmas.List.{get_or-map, length-map, get_or_default}
use Rattle.helix_values.specs.declared.cell.Cell.{Cell}
use Rattle.helix_values.specs.declared.cell.Cell.TheVariants as cell
use Rattle.helix_profile.specs.declared.field.Field.{Field}
use Rattle.helix_output.specs.Csv.{joined}
use Rattle.helix_output.specs.Fitting.{FitsFields}
use Rattle.helix_output.specs.JsonLines.{json_name, json_cell, json_member, json_members}
use Rattle.helix_output.specs.Inner.Cells.{comma_before}
use Rattle.helix_output.proofs.Joining.{joined-more}
use Rattle.helix_output.proofs.RowCells.{length-texts, texts-at}

-- the text of a name among those of all
map-at : (f : Field → List ℕ) (fields : List Field) (i : ℕ) (field : Field) → i < length fields
    → field ≡ get_or fields i field → f field ≡ get_or (map f fields) i []
map-at f fields i field within is = ap f is ∙ sym (get_or-map f fields i field [] within)

-- one name more of the head
pub names_further : (f : Field → List ℕ) (fields : List Field) (i : ℕ) (field : Field) (now next : List ℕ)
    → i < length fields → field ≡ get_or fields i field → now ≡ joined (take i (map f fields))
    → next ≡ now ++ (comma_before i ++ f field) → next ≡ joined (take (i + 1) (map f fields))
names_further f fields i field now next within is so_far more =
    more
    ∙ ap (λ l. l ++ (comma_before i ++ f field)) so_far
    ∙ sym (joined-more (map f fields) i (f field) (omega (arith, within, length-map fields f))
    (map-at f fields i field within is))

-- one member more of an object
pub members_further : (fields : List Field) (row : List Cell) (names : List (List ℕ)) (i : ℕ) (field : Field)
    (value : Cell) (name entry start now next : List ℕ)
    → i < length fields → FitsFields fields row → names ≡ map json_name fields → field ≡ get_or fields i field
    → value ≡ get_or row i cell.Null → name ≡ entry → entry ≡ get_or names i entry
    → now ≡ start ++ joined (take i (json_members fields row))
    → next ≡ now ++ (comma_before i ++ (name ++ json_cell field value))
    → next ≡ start ++ joined (take (i + 1) (json_members fields row))
members_further fields row names i field value name entry start now next within fits are of_field of_value of_name
    of_entry so_far more =
    let is_name : name ≡ json_name field =
    of_name
    ∙ of_entry
    ∙ ap (λ (ns : List (List ℕ)). get_or ns i entry) are
    ∙ get_or_default (map json_name fields) i entry [] (omega (arith, within, length-map fields json_name))
    ∙ sym (map-at json_name fields i field within of_field) in
    more
    ∙ ap (λ l. l ++ (comma_before i ++ (name ++ json_cell field value))) so_far
    ∙ append_assoc start (joined (take i (json_members fields row))) (comma_before i ++ (name ++ json_cell field value))
    ∙ ap (λ n. start ++ (joined (take i (json_members fields row)) ++ (comma_before i ++ (n ++ json_cell field value))))
    is_name
    ∙ ap (λ l. start ++ l)
    (sym (joined-more (json_members fields row) i (json_member field value)
    (omega (arith, within, length-texts json_member fields row fits))
    (texts-at json_member fields row i field value within fits of_field of_value)))
