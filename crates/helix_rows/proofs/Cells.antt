-- Rows whose cells are cells for the classes of the regions.
use Rattle.std.proofs.Common.{◌≡◌, ◌⊎◌, inl, inr, ℕ, ◌<◌, Bool, true, false, List, [], take, length, slice_index_or, slice_set, refl, sym, ◌∙◌, ap, subst, arith}
use Rattle.std.proofs.lemmas.List.{get_or-set_other, get_or-set_same, length-map, length-take-le}
use Rattle.std.proofs.lemmas.List.Elements.{All-contains, Contains-get_or}
use Rattle.std.specs.List.{All, Contains}
use Rattle.helix_rows.proofs.Asked.{piece_cell}
use Rattle.helix_rows.proofs.Answered.{long_changed, step_has}
use Rattle.helix_rows.proofs.Levels.{classes_same, over_part}
use Rattle.helix_rows.proofs.Regions.{same_or_not}
use Rattle.helix_rows.specs.Inner.Cells.{CanBeAsked, HasCells, IsCellOf}
use Rattle.helix_rows.specs.Inner.Levels.{part_at, level_of, part_of, before_of, ChangedIf, GoesOn, IsLayout, IsLevel, KeepRegions}
use Rattle.helix_rows.specs.Parts.{HasAt, AreRegionsOf, HasCellsOf, IsRowFor}
use Rattle.helix_rows.specs.Regions.{cell_at, class_at, number_at, IsCellFor, IsLeastStep, IsPieceOf}
use Rattle.helix_rows.specs.declared.layout.Layout.{Layout}
use Rattle.helix_rows.specs.declared.layout.Level.{Level}
use Rattle.helix_rows.specs.declared.region.Question.{Question}
use Rattle.helix_values.specs.Class.{Class}
use Rattle.helix_values.specs.Counts.{IsMarkBound, IsMarkOf}
use Rattle.helix_values.specs.declared.cell.Cell.{Cell}
use Rattle.helix_values.specs.declared.cell.Cell.TheVariants as cell
use Rattle.helix_values.specs.declared.mark.Mark.{Mark}

module _ (layout : Layout) (fields : ℕ) (is : IsLayout layout fields) {R : Type 0} {C : R → List Class}
    (regions : List R) where
  -- a row that is sought
  pub cells_sought : (row : List Cell) → length row ≡ fields → IsRowFor C regions layout.parts row
      → HasCells C regions layout row
  cells_sought row long sought field less number listed =
      let level : IsLevel layout.parts field (level_of layout field) = is.levels field (omega (arith, less, long)) in
      record {
        is = λ d. subst
            (λ f. IsCellFor (class_at (C (slice_index_or regions number d)) (level_of layout field).position)
            (cell_at row f))
            level.is ((All-contains (HasCellsOf C regions (part_of layout field).fields row)
            (part_of layout field).regions
            number (sought (level_of layout field).part (record { fields = []; regions = [] }) level.part) listed).are d
            (level_of layout field).position level.position);
      }

  module _ (field : ℕ) (within : field < fields) (row : List Cell) (long : length row ≡ fields)
      (cells : HasCells C regions layout row) where
    CellAs : ℕ → ℕ → Level → Type 0
    CellAs number other at = Contains (part_at layout.parts at.part).regions number
        → IsCellOf C regions number at.position (cell_at row other)

    -- the regions of a part can be asked
    pub askable : (mark : Mark) → ((class : Class) → IsMarkBound class (cell_at row field) → IsMarkOf class mark)
        → (numbers : List ℕ) → ((n : ℕ) → Contains numbers n → Contains (part_of layout field).regions n)
        → All (CanBeAsked C regions (part_of layout field).fields (level_of layout field).position row mark) numbers
    unfolding CellAs
    askable mark of numbers only k d inside =
        let n : ℕ = slice_index_or numbers k d in
        let listed : Contains (part_of layout field).regions (slice_index_or numbers k d) =
        only (slice_index_or numbers k d) (Contains-get_or numbers k d inside) in
        let level : IsLevel layout.parts field (level_of layout field) = is.levels field within in
        record {
          before = λ r i less.
              let before : i < length (part_of layout field).fields = omega (arith, less, level.position) in
              let back = is.back (level_of layout field).part i level.part before in
              (subst (CellAs (slice_index_or numbers k d) (number_at (part_of layout field).fields i)) back
              (cells (number_at (part_of layout field).fields i)
              (omega (arith, is.within (level_of layout field).part i level.part before, long))
              (slice_index_or numbers k d)) listed).is r;
          within = λ r. of _ ((cells field (omega (arith, within, long)) (slice_index_or numbers k d) listed).is r).0;
        }

    -- a cell is set
    pub cells_changed : (yes : Bool) (new : List Cell) → new ≡ ChangedIf yes row field (cell_at new field)
        → (yes ≡ true → (n : ℕ) → Contains (part_of layout field).regions n
        → IsCellOf C regions n (level_of layout field).position (cell_at new field)) → HasCells C regions layout new
    cells_changed true new changed some = λ f less n listed. by f less n listed (same_or_not f field)
      where
        by : (f : ℕ) → f < length new → (n : ℕ) → Contains (part_of layout f).regions n
            → (f ≡ field) ⊎ ¬ (f ≡ field) → IsCellOf C regions n (level_of layout f).position (cell_at new f)
        by f less n listed (inl e) = subst (λ k. Contains (part_of layout k).regions n
            → IsCellOf C regions n (level_of layout k).position (cell_at new k)) (sym e) (some refl n) listed
        by f less n listed (inr differs) = subst (IsCellOf C regions n (level_of layout f).position)
            (sym (ap (λ r. cell_at r f) changed ∙ get_or-set_other row field f _ cell.Null differs))
            (cells f (omega (arith, less, long_changed true row new field _ changed)) n listed)
    cells_changed false new changed some = subst (HasCells C regions layout) (sym changed) cells

    -- to a cell for the classes
    pub cells_set : (c : Cell) → ((n : ℕ) → Contains (part_of layout field).regions n
        → IsCellOf C regions n (level_of layout field).position c) → HasCells C regions layout (slice_set row field c)
    cells_set c some =
        let same : cell_at (slice_set row field c) field ≡ c =
        get_or-set_same row field c cell.Null (omega (arith, within, long)) in
        cells_changed true (slice_set row field c) (ap (λ d. slice_set row field d) (sym same))
        (λ _ n listed. subst (IsCellOf C regions n (level_of layout field).position) (sym same) (some n listed))

module _ (layout : Layout) (fields : ℕ) (is : IsLayout layout fields) {R : Type 0} {C : R → List Class}
    (F : R → List ℕ) (Has : R → List Cell → Type 0) (regions : List R)
    (are : AreRegionsOf F C Has regions layout.parts) where
  -- the questions keep the classes
  pub cells_kept : {A : R → ℕ} (new : List R) → KeepRegions F C A Has regions new → (row : List Cell)
      → length row ≡ fields → HasCells C regions layout row → HasCells C new layout row
  cells_kept new kept row long cells field less number listed = record {
    is = λ d. subst (λ cs. IsCellFor (class_at cs (level_of layout field).position) (cell_at row field))
        (sym (kept.classes number d
        (over_part layout fields is field (omega (arith, less, long)) F Has regions are number listed).within))
        ((cells field less number listed).is d);
  }

  -- a cell that goes on to a row is one for the class
  pub cell_goes : ((r : R) (cells : List Cell) → Has r cells → IsPieceOf (F r) (C r) cells) → (field : ℕ)
      → field < fields → (row : List Cell) (c : Cell) → GoesOn (HasAt Has regions) layout field row c → (n : ℕ)
      → Contains (part_of layout field).regions n → IsCellOf C regions n (level_of layout field).position c
  cell_goes shaped field within row c goes n listed = record {
    is = λ d.
        let level : IsLevel layout.parts field (level_of layout field) = is.levels field within in
        let long : length (before_of layout field row) ≡ (level_of layout field).position =
        length-map (take (level_of layout field).position (part_of layout field).fields) (λ f. cell_at row f)
        ∙ length-take-le (level_of layout field).position (part_of layout field).fields
        (omega (arith, level.position)) in
        subst (λ cs. IsCellFor (class_at cs (level_of layout field).position) c)
        (classes_same layout fields is field within F Has regions are goes.has.number n goes.has.listed listed d)
        (subst (λ k. IsCellFor (class_at (C (slice_index_or regions goes.has.number d)) k) c) long
        (piece_cell (F (slice_index_or regions goes.has.number d)) (C (slice_index_or regions goes.has.number d))
        (before_of layout field row) c goes.rest (shaped _ _ (goes.has.has.has d))));
  }

  -- a question is answered
  pub cells_answered : {A : R → ℕ} → ((r : R) (cells : List Cell) → Has r cells → IsPieceOf (F r) (C r) cells)
      → (field : ℕ) → field < fields → (row : List Cell) → length row ≡ fields → HasCells C regions layout row
      → (question : Question) (yes : Bool) (after : List R) → KeepRegions F C A Has regions after → (new : List Cell)
      → new ≡ ChangedIf yes row field (cell_at new field)
      → IsLeastStep (GoesOn (HasAt Has regions) layout field row) question yes (cell_at row field) (cell_at new field)
      → HasCells C after layout new
  cells_answered shaped field within row long cells question result after kept new changed answer =
      cells_kept after kept new (long_changed result row new field _ changed ∙ long)
      (cells_changed layout fields is regions field within row long cells result new changed
      (λ some n listed. cell_goes shaped field within row (cell_at new field)
      (step_has _ question result _ _ answer some).has n listed))
