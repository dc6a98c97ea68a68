-- One region that is asked for its cell in a row.
use Rattle.std.proofs.Common.{◌≡◌, ℕ, List, [], ◌∷◌, ◌++◌, take, slice_index_or, sym, ◌∙◌, ap, subst}
use Rattle.helix_rows.proofs.Asked.{has_at, least_same}
use Rattle.helix_rows.specs.Inner.Cells.{IsCellOf}
use Rattle.helix_rows.specs.Parts.{HasAt, IsRegionOver}
use Rattle.helix_rows.specs.Regions.{cell_at, class_at, number_at, piece, Continues, IsAskedFor, IsCellFor, IsLeastOf}
use Rattle.helix_rows.specs.declared.region.Question.{Question}
use Rattle.helix_values.specs.Class.{Class}
use Rattle.helix_values.specs.declared.cell.Cell.{Cell}

module _ {R : Type 0} (F : R → List ℕ) (regions : List R) (wanted : List ℕ) (number : ℕ)
    (over : IsRegionOver F regions wanted number) (r : R) (got : r ≡ slice_index_or regions number r)
    (row : List Cell) (field position own_position : ℕ) (positions : own_position ≡ position)
    (is : number_at wanted position ≡ field) where
  fields_are : F r ≡ wanted
  fields_are = ap F got ∙ over.over r

  field_is : number_at (F r) own_position ≡ field
  field_is = ap (λ fs. number_at fs own_position) fields_are ∙ (ap (λ p. number_at wanted p) positions ∙ is)

  cells_are : piece (take own_position (F r)) row ≡ piece (take position wanted) row
  cells_are = ap (λ p. piece (take p (F r)) row) positions ∙ ap (λ fs. piece (take position fs) row) fields_are

  -- the row's own cell is one for its class
  pub own_cell : (C : R → List Class) → IsCellOf C regions number position (cell_at row field)
      → IsCellFor (class_at (C r) own_position) (cell_at row (number_at (F r) own_position))
  own_cell C own =
      subst (λ f. IsCellFor (class_at (C r) own_position) (cell_at row f)) (sym field_is)
      (subst (λ p. IsCellFor (class_at (C r) p) (cell_at row field)) (sym positions)
      (subst (λ q. IsCellFor (class_at (C q) position) (cell_at row field)) (sym got) (own.is r)))

  module _ (Has : R → List Cell → Type 0) where
    to : (c : Cell) → Continues (Has r) (piece (take own_position (F r)) row) c
        → Continues (HasAt Has regions number) (piece (take position wanted) row) c
    to c goes = record {
      rest = goes.rest;
      has = has_at F Has regions number r _ over.within
          (subst (λ cells. Has (slice_index_or regions number r) ((cells ++ c ∷ []) ++ goes.rest)) cells_are
          (subst (λ q. Has q ((piece (take own_position (F r)) row ++ c ∷ []) ++ goes.rest)) got goes.has));
    }

    from : (c : Cell) → Continues (HasAt Has regions number) (piece (take position wanted) row) c
        → Continues (Has r) (piece (take own_position (F r)) row) c
    from c goes = record {
      rest = goes.rest;
      has = subst (λ q. Has q ((piece (take own_position (F r)) row ++ c ∷ []) ++ goes.rest)) (sym got)
          (subst (λ cells. Has (slice_index_or regions number r) ((cells ++ c ∷ []) ++ goes.rest)) (sym cells_are)
          (goes.has.has r));
    }

    -- what the region answers
    pub own_answer : (question : Question) (new : List Cell)
        → IsLeastOf (Continues (Has r) (piece (take own_position (F r)) row))
        (IsAskedFor question (cell_at row (number_at (F r) own_position)))
        (cell_at new (number_at (F r) own_position))
        → IsLeastOf (Continues (HasAt Has regions number) (piece (take position wanted) row))
        (IsAskedFor question (cell_at row field)) (cell_at new field)
    own_answer question new answer =
        subst (λ f. IsLeastOf (Continues (HasAt Has regions number) (piece (take position wanted) row))
        (IsAskedFor question (cell_at row f)) (cell_at new f)) field_is
        (least_same _ _ _ _ to from answer)
