-- The cells of a row and their texts, one by one.
use Rattle.std.proofs.Common.{◌≡◌, ℕ, ◌<◌, ◌≤◌, zero, suc, List, [], ◌∷◌, length, get_or, take, refl, sym, ◌∙◌, ap, ap₂, subst, arith}
use Rattle.std.specs.List.{All}
use Rattle.std.proofs.lemmas.List.{length-take, length-take-le}
use Rattle.helix_base.specs.Alphabet.{IsCharacterOf}
use Rattle.helix_base.specs.declared.alphabet.Alphabet.TheVariants.{Unicode}
use Rattle.helix_values.specs.declared.kind.Kind.{Kind}
use Rattle.helix_values.specs.declared.kind.Kind.TheVariants as kind
use Rattle.helix_values.specs.declared.cell.Cell.{Cell}
use Rattle.helix_values.specs.declared.cell.Cell.TheVariants as cell
use Rattle.helix_values.specs.UniverseLaws.{in_widest}
use Rattle.helix_profile.specs.declared.field.Field.{Field}
use Rattle.helix_output.specs.Csv.{csv_cell, csv_cells, csv_line, joined}
use Rattle.helix_output.specs.Fitting.{FitsKind, FitsFields, texts_of}
use Rattle.helix_output.specs.Line.{Line, ends_from, AgreesOn}
use Rattle.helix_output.specs.Inner.Cells.{end_of, AreJoined}
use Rattle.helix_output.proofs.Joining.{cut_line, length-ends, take-ends}

-- a text of a kind has at most 1,000 characters of Unicode
pub text_fits : (k : Kind) (text : List ℕ) → FitsKind k (cell.Text text)
    → (length text ≤ 1000) × All (IsCharacterOf Unicode) text
text_fits (kind.Text alphabet) text fits = in_widest (kind.Text alphabet) (cell.Text text) fits
text_fits (kind.Code code) text fits = in_widest (kind.Code code) (cell.Text text) fits
text_fits other text fits = absurd fits

pub length-fits : (fields : List Field) (row : List Cell) → FitsFields fields row → length row ≡ length fields
length-fits [] [] fits = refl
length-fits (field ∷ fields) (value ∷ row) fits = ap suc (length-fits fields row fits.1)
length-fits [] (value ∷ row) fits = absurd fits
length-fits (field ∷ fields) [] fits = absurd fits

-- the cell of a field fits it
pub fits-at : (fields : List Field) (row : List Cell) (i : ℕ) (field : Field) (value : Cell) → i < length fields
    → FitsFields fields row → field ≡ get_or fields i field → value ≡ get_or row i cell.Null → FitsKind field.kind value
fits-at [] row i field value within fits of_field of_value = absurd (omega arith)
fits-at (first ∷ fields) [] i field value within fits of_field of_value = absurd fits
fits-at (first ∷ fields) (head ∷ row) zero field value within fits of_field of_value =
    subst (λ (f : Field). FitsKind f.kind value) (sym of_field)
    (subst (λ (v : Cell). FitsKind first.kind v) (sym of_value) fits.0)
fits-at (first ∷ fields) (head ∷ row) (suc i) field value within fits of_field of_value =
    fits-at fields row i field value (omega arith) fits.1 of_field of_value

module _ (text : Field → Cell → List ℕ) where
  pub length-texts : (fields : List Field) (row : List Cell) → FitsFields fields row
      → length (texts_of text fields row) ≡ length fields
  length-texts [] [] fits = refl
  length-texts (field ∷ fields) (value ∷ row) fits = ap suc (length-texts fields row fits.1)
  length-texts [] (value ∷ row) fits = absurd fits
  length-texts (field ∷ fields) [] fits = absurd fits

  -- the text of a cell
  pub texts-at : (fields : List Field) (row : List Cell) (i : ℕ) (field : Field) (value : Cell) → i < length fields
      → FitsFields fields row → field ≡ get_or fields i field → value ≡ get_or row i cell.Null
      → text field value ≡ get_or (texts_of text fields row) i []
  texts-at [] row i field value within fits of_field of_value = absurd (omega arith)
  texts-at (first ∷ fields) [] i field value within fits of_field of_value = absurd fits
  texts-at (first ∷ fields) (head ∷ row) zero field value within fits of_field of_value = ap₂ text of_field of_value
  texts-at (first ∷ fields) (head ∷ row) (suc i) field value within fits of_field of_value =
      texts-at fields row i field value (omega arith) fits.1 of_field of_value

  take-texts : (n : ℕ) (fields : List Field) (row : List Cell)
      → take n (texts_of text fields row) ≡ texts_of text (take n fields) (take n row)
  take-texts zero fields row = refl
  take-texts (suc n) [] [] = refl
  take-texts (suc n) [] (value ∷ row) = refl
  take-texts (suc n) (field ∷ fields) [] = refl
  take-texts (suc n) (field ∷ fields) (value ∷ row) = ap (λ ts. text field value ∷ ts) (take-texts n fields row)

  -- rows that agree on the first cells have the same first texts
  same_texts : (n : ℕ) (fields : List Field) (before row : List Cell) → take n before ≡ take n row
      → take n (texts_of text fields before) ≡ take n (texts_of text fields row)
  same_texts n fields before row same =
      take-texts n fields before ∙ ap (texts_of text (take n fields)) same ∙ sym (take-texts n fields row)

-- what is left of a line that agrees with a row on the first cells: their texts, joined
pub record IsKept (n : ℕ) (line : Line) (row : List Cell) : Type 0 where
  pub count : n ≤ length line.ends
  pub begun : AreJoined (take n (csv_cells line.fields row)) (take (end_of n line.ends) line.bytes) (take n line.ends)

kept_from : (n : ℕ) (line : Line) (parts row_parts : List (List ℕ)) → line.bytes ≡ csv_line parts
    → line.ends ≡ ends_from 0 parts → n ≤ length row_parts → take n parts ≡ take n row_parts
    → (n ≤ length line.ends)
    × AreJoined (take n row_parts) (take (end_of n line.ends) line.bytes) (take n line.ends)
kept_from n line parts row_parts bytes ends within same =
    let some : n ≤ length parts =
    omega (arith, length-take-le n row_parts within, length-take n parts, ap length same) in (
      omega (arith, some, ap length ends, length-ends 0 parts),
      record {
        bytes_are =
            ap₂ (λ (es bs : List ℕ). take (end_of n es) bs) ends bytes
            ∙ cut_line n parts some
            ∙ ap joined same;
        ends_are = ap (take n) ends ∙ take-ends n 0 parts ∙ ap (ends_from 0) same;
      },
    )

pub agrees_kept : (n : ℕ) (line : Line) (row : List Cell) → n ≤ length row → FitsFields line.fields row
    → AgreesOn n line row → IsKept n line row
agrees_kept zero line row within fits agrees = record {
  count = omega arith;
  begun = record { bytes_are = refl; ends_are = refl };
}
agrees_kept (suc n) line row within fits (before, is, same) =
    let kept = kept_from (suc n) line (csv_cells line.fields before) (csv_cells line.fields row)
    (ap (λ (l : Line). l.bytes) is) (ap (λ (l : Line). l.ends) is)
    (omega (arith, within, length-fits line.fields row fits, length-texts csv_cell line.fields row fits))
    (same_texts csv_cell (suc n) line.fields before row same) in
    record { count = kept.0; begun = kept.1 }

-- a line as its parts
abbrev pub line_with : List Field → List ℕ → List ℕ → Line
line_with fields bytes ends = record { fields = fields; bytes = bytes; ends = ends }

-- the same of a line under another name
pub kept_as : (n : ℕ) (line old : Line) (row : List Cell) → line ≡ old → n ≤ length row → FitsFields old.fields row
    → AgreesOn n old row → IsKept n line row × (n ≤ length line.fields)
kept_as n line old row same within fits agrees =
    let line_fits : FitsFields line.fields row = subst (λ (l : Line). FitsFields l.fields row) (sym same) fits in (
      agrees_kept n line row within line_fits (subst (λ (l : Line). AgreesOn n l row) (sym same) agrees),
      omega (arith, within, length-fits line.fields row line_fits),
    )

pub begun_as : (n : ℕ) (fields slice : List Field) (row : List Cell) (bytes ends kept_bytes kept_ends : List ℕ)
    → slice ≡ fields → kept_bytes ≡ take (end_of n ends) bytes → kept_ends ≡ take n ends
    → AreJoined (take n (csv_cells fields row)) (take (end_of n ends) bytes) (take n ends)
    → AreJoined (take n (csv_cells slice row)) kept_bytes kept_ends
begun_as n fields slice row bytes ends kept_bytes kept_ends same bytes_kept ends_kept begun = record {
  bytes_are = bytes_kept ∙ begun.bytes_are
      ∙ ap (λ (f : List Field). joined (take n (csv_cells f row))) (sym same);
  ends_are = ends_kept ∙ begun.ends_are
      ∙ ap (λ (f : List Field). ends_from 0 (take n (csv_cells f row))) (sym same);
}
