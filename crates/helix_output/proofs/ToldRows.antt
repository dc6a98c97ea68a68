-- Rows are told by their lines, and lists of rows by their text.
use Rattle.std.proofs.Common.{◌≡◌, ℕ, Bool, true, false, List, [], ◌∷◌, ◌++◌, length, refl, sym, ◌∙◌, ap, ap₂, arith, append_assoc}
use Rattle.std.specs.Prelude.{flat_map}
use Rattle.std.proofs.lemmas.List.{append_cancel_left, length-append}
use Rattle.helix_values.specs.declared.cell.Cell.{Cell}
use Rattle.helix_profile.specs.declared.field.Field.{Field}
use Rattle.helix_output.specs.Csv.{csv_cell, csv_cells, csv_head_line, csv_row_line, joined}
use Rattle.helix_output.specs.DataText.{data_text}
use Rattle.helix_output.specs.Fitting.{FitsKind, FitsFields, AllFit, texts_of}
use Rattle.helix_output.specs.JsonLines.{json_break, json_closing, json_member, json_members, json_opening, json_rows}
use Rattle.helix_output.specs.declared.format.Format.{Format}
use Rattle.helix_output.specs.declared.format.Format.TheVariants as format
use Rattle.helix_output.proofs.Stops.{IsStop, same_first, same_rest}
use Rattle.helix_output.proofs.ToldCells.{csv_told, json_told}

module _ (text : Field → Cell → List ℕ) (end : ℕ) (stop : IsStop end)
    (told : (field : Field) (v w : Cell) (p q : ℕ) (x y : List ℕ) → FitsKind field.kind v → FitsKind field.kind w
    → IsStop p → IsStop q → text field v ++ p ∷ x ≡ text field w ++ q ∷ y → (v ≡ w) × (p ∷ x ≡ q ∷ y)) where
  row_told : (fields : List Field) (a b : List Cell) (x y : List ℕ) → FitsFields fields a → FitsFields fields b
      → joined (texts_of text fields a) ++ end ∷ x ≡ joined (texts_of text fields b) ++ end ∷ y → (a ≡ b) × (x ≡ y)
  row_told [] [] [] x y of_a of_b same = (refl, same_rest end end x y same)
  row_told [] (v ∷ a) b x y of_a of_b same = absurd of_a
  row_told [] [] (w ∷ b) x y of_a of_b same = absurd of_b
  row_told (f ∷ fields) [] b x y of_a of_b same = absurd of_a
  row_told (f ∷ fields) (v ∷ a) [] x y of_a of_b same = absurd of_b
  row_told (f ∷ []) (v ∷ []) (w ∷ []) x y of_a of_b same =
      let one : (v ≡ w) × (end ∷ x ≡ end ∷ y) = told f v w end end x y of_a.0 of_b.0 stop stop same in
      (ap (λ c. c ∷ []) one.0, same_rest end end x y one.1)
  row_told (f ∷ []) (v ∷ v₂ ∷ a) (w ∷ b) x y of_a of_b same = absurd of_a.1
  row_told (f ∷ []) (v ∷ []) (w ∷ w₂ ∷ b) x y of_a of_b same = absurd of_b.1
  row_told (f ∷ g ∷ fields) (v ∷ []) (w ∷ b) x y of_a of_b same = absurd of_a.1
  row_told (f ∷ g ∷ fields) (v ∷ v₂ ∷ a) (w ∷ []) x y of_a of_b same = absurd of_b.1
  row_told (f ∷ g ∷ fields) (v ∷ v₂ ∷ a) (w ∷ w₂ ∷ b) x y of_a of_b same =
      let more = joined (texts_of text (g ∷ fields) (v₂ ∷ a)) in
      let others = joined (texts_of text (g ∷ fields) (w₂ ∷ b)) in
      let one : (v ≡ w) × (44 ∷ (more ++ end ∷ x) ≡ 44 ∷ (others ++ end ∷ y)) =
      told f v w 44 44 (more ++ end ∷ x) (others ++ end ∷ y) of_a.0 of_b.0 refl refl
      (sym (append_assoc (text f v) (44 ∷ more) (end ∷ x))
      ∙ same
      ∙ append_assoc (text f w) (44 ∷ others) (end ∷ y)) in
      let rest : (v₂ ∷ a ≡ w₂ ∷ b) × (x ≡ y) =
      row_told (g ∷ fields) (v₂ ∷ a) (w₂ ∷ b) x y of_a.1 of_b.1
      (same_rest 44 44 (more ++ end ∷ x) (others ++ end ∷ y) one.1) in
      (ap₂ (λ (c : Cell) (r : List Cell). c ∷ r) one.0 rest.0, rest.1)

-- CSV

-- the bytes of a line come before those after it
csv_split : (parts x : List ℕ) → (parts ++ 10 ∷ []) ++ x ≡ parts ++ 10 ∷ x
csv_split parts x = append_assoc parts (10 ∷ []) x

csv_some : (fields : List Field) (row : List Cell) (x : List ℕ) → [] ≡ csv_row_line fields row ++ x → ⊥
csv_some fields row x same =
    let parts = joined (csv_cells fields row) in
    omega (arith, ap length (same ∙ csv_split parts x), length-append parts (10 ∷ x))

csv_rows_told : (fields : List Field) (a b : List (List Cell)) → AllFit fields a → AllFit fields b
    → flat_map (csv_row_line fields) a ≡ flat_map (csv_row_line fields) b → a ≡ b
csv_rows_told fields [] [] of_a of_b same = refl
csv_rows_told fields [] (s ∷ b) of_a of_b same =
    absurd (csv_some fields s (flat_map (csv_row_line fields) b) same)
csv_rows_told fields (r ∷ a) [] of_a of_b same =
    absurd (csv_some fields r (flat_map (csv_row_line fields) a) (sym same))
csv_rows_told fields (r ∷ a) (s ∷ b) of_a of_b same =
    let left = flat_map (csv_row_line fields) a in
    let right = flat_map (csv_row_line fields) b in
    let one : (r ≡ s) × (left ≡ right) =
    row_told csv_cell 10 refl csv_told fields r s left right of_a.0 of_b.0
    (sym (csv_split (joined (csv_cells fields r)) left) ∙ same ∙ csv_split (joined (csv_cells fields s)) right) in
    ap₂ (λ (c : List Cell) (rows : List (List Cell)). c ∷ rows) one.0
    (csv_rows_told fields a b of_a.1 of_b.1 one.1)

-- JSON

-- what comes before a row's members
row_opening : Bool → List ℕ
row_opening first = json_break first ++ 123 ∷ []

json_split : (first : Bool) (parts x y : List ℕ)
    → ((json_break first ++ 123 ∷ (parts ++ 125 ∷ [])) ++ x) ++ y ≡ row_opening first ++ (parts ++ 125 ∷ (x ++ y))
unfolding row_opening
json_split true parts x y =
    ap (λ l. 10 ∷ 123 ∷ l) (append_assoc (parts ++ 125 ∷ []) x y ∙ append_assoc parts (125 ∷ []) (x ++ y))
json_split false parts x y =
    ap (λ l. 44 ∷ 10 ∷ 123 ∷ l) (append_assoc (parts ++ 125 ∷ []) x y ∙ append_assoc parts (125 ∷ []) (x ++ y))

-- what closes the list begins no row
json_some : (first : Bool) (x : List ℕ) → json_closing ≡ row_opening first ++ x → ⊥
unfolding row_opening
json_some true x same =
    omega (arith, same_first 93 123 (10 ∷ []) x (same_rest 10 10 (93 ∷ 10 ∷ []) (123 ∷ x) same))
json_some false x same = omega (arith, same_first 10 44 (93 ∷ 10 ∷ []) (10 ∷ 123 ∷ x) same)

module _ (fields : List Field) where
  -- the text of some rows and what closes the list
  json_rest : (first : Bool) (row : List Cell) (rows : List (List Cell))
      → json_rows first fields (row ∷ rows) ++ json_closing
      ≡ row_opening first
      ++ (joined (json_members fields row) ++ 125 ∷ (json_rows false fields rows ++ json_closing))
  json_rest first row rows =
      json_split first (joined (json_members fields row)) (json_rows false fields rows) json_closing

  json_rows_told : (first : Bool) (a b : List (List Cell)) → AllFit fields a → AllFit fields b
      → json_rows first fields a ++ json_closing ≡ json_rows first fields b ++ json_closing → a ≡ b
  json_rows_told first [] [] of_a of_b same = refl
  json_rows_told first [] (s ∷ b) of_a of_b same =
      absurd (json_some first (joined (json_members fields s) ++ 125 ∷ (json_rows false fields b ++ json_closing))
      (same ∙ json_rest first s b))
  json_rows_told first (r ∷ a) [] of_a of_b same =
      absurd (json_some first (joined (json_members fields r) ++ 125 ∷ (json_rows false fields a ++ json_closing))
      (sym same ∙ json_rest first r a))
  json_rows_told first (r ∷ a) (s ∷ b) of_a of_b same =
      let left = json_rows false fields a ++ json_closing in
      let right = json_rows false fields b ++ json_closing in
      let one : (r ≡ s) × (left ≡ right) =
      row_told json_member 125 refl json_told fields r s left right of_a.0 of_b.0
      (append_cancel_left (row_opening first) (joined (json_members fields r) ++ 125 ∷ left)
      (joined (json_members fields s) ++ 125 ∷ right)
      (sym (json_rest first r a) ∙ same ∙ json_rest first s b)) in
      ap₂ (λ (c : List Cell) (rows : List (List Cell)). c ∷ rows) one.0
      (json_rows_told false a b of_a.1 of_b.1 one.1)

pub rows_told : (form : Format) (fields : List Field) (a b : List (List Cell)) → AllFit fields a → AllFit fields b
    → data_text form fields a ≡ data_text form fields b → a ≡ b
rows_told format.Csv fields a b of_a of_b same =
    csv_rows_told fields a b of_a of_b
    (append_cancel_left (csv_head_line fields) (flat_map (csv_row_line fields) a) (flat_map (csv_row_line fields) b)
    same)
rows_told format.Json fields a b of_a of_b same =
    json_rows_told fields true a b of_a of_b
    (append_cancel_left json_opening (json_rows true fields a ++ json_closing) (json_rows true fields b ++ json_closing)
    same)
