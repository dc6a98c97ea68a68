-- One region of several that is asked for its least cell.
use Rattle.std.proofs.Common.{◌≡◌, ◌↔◌, ◌⊎◌, inl, inr, ℕ, ◌+◌, ◌<◌, ◌≤◌, List, [], ◌∷◌, ◌++◌, take, drop, length, slice_index_or, slice_set, refl, sym, ◌∙◌, ap, subst, arith}
use Rattle.std.proofs.lemmas.List.{get_or_default, length-append, take_more, take-append-drop}
use Rattle.std.proofs.lemmas.List.Elements.{Contains-append_left, Contains-get_or}
use Rattle.std.proofs.lemmas.List.Sums.{sum_by-set}
use Rattle.std.specs.List.{All, Contains, sum_by}
use Rattle.helix_base.specs.Steps.{Counted}
use Rattle.helix_rows.proofs.Found.{IsBest, best_more}
use Rattle.helix_rows.proofs.Regions.{kept_both, kept_one, has_new, has_old, over_new}
use Rattle.helix_rows.specs.Inner.Answers.{Best, IsOffered, IsFound}
use Rattle.helix_rows.specs.Inner.Cells.{CanBeAsked}
use Rattle.helix_rows.specs.Inner.Levels.{KeepRegions}
use Rattle.helix_rows.specs.Parts.{HasAt, IsInPart, IsRegionOver}
use Rattle.helix_rows.specs.Regions.{cell_at, class_at, piece, AreCellsTo, Continues, IsCellFor, IsLeastOf, IsPieceOf, NoneFalls}
use Rattle.helix_values.specs.Class.{Class, AreComparable, AreComparableRows}
use Rattle.helix_values.specs.Counts.{IsMarkOf}
use Rattle.helix_values.specs.Slot.{FitsSlot}
use Rattle.helix_values.specs.declared.cell.Cell.{Cell}
use Rattle.helix_values.specs.declared.mark.Mark.{Mark}

pub comparable_cells : (cells : List Cell) (c d : Cell) (rest other : List Cell)
    → AreComparableRows ((cells ++ c ∷ []) ++ rest) ((cells ++ d ∷ []) ++ other) → AreComparable c d
comparable_cells [] c d rest other rows = rows.0
comparable_cells (x ∷ cells) c d rest other rows = comparable_cells cells c d rest other rows.1

-- a cell after some others is the one in its place
pub cell_after : (cells : List Cell) (c : Cell) (rest : List Cell)
    → cell_at ((cells ++ c ∷ []) ++ rest) (length cells) ≡ c
cell_after [] c rest = refl
cell_after (x ∷ cells) c rest = cell_after cells c rest

pub piece_cell : (fields : List ℕ) (classes : List Class) (cells : List Cell) (c : Cell) (rest : List Cell)
    → IsPieceOf fields classes ((cells ++ c ∷ []) ++ rest) → IsCellFor (class_at classes (length cells)) c
piece_cell fields classes cells c rest piece =
    subst (IsCellFor (class_at classes (length cells))) (cell_after cells c rest)
    (piece.each (length cells) (omega (
      arith,
      piece.count,
      length-append (cells ++ c ∷ []) rest,
      length-append cells (c ∷ []),
    )))

pub steps_both : (old mid new : Counted) → NoneFalls old mid → NoneFalls mid new → NoneFalls old new
steps_both old mid new first second = record {
  domain = omega (arith, first.domain, second.domain);
  moves = omega (arith, first.moves, second.moves);
}

cons_nil : (m : ℕ) (ns : List ℕ) → m ∷ ns ≡ [] → ⊥
cons_nil m ns e = cc e

-- what is among the first of a list is in it
pub contains_taken : (ns : List ℕ) (i n : ℕ) → Contains (take i ns) n → Contains ns n
contains_taken ns i n contains =
    subst (λ l. Contains l n) (take-append-drop i ns) (Contains-append_left (take i ns) (drop i ns) n contains)

-- a least cell of a set of the same cells
pub least_same : (P Q : Cell → Type 0) (Admitted : Cell → Type 0) (c : Cell) → ((d : Cell) → P d → Q d)
    → ((d : Cell) → Q d → P d) → IsLeastOf P Admitted c → IsLeastOf Q Admitted c
least_same P Q Admitted c to from is = record {
  has = to c is.has;
  admitted = is.admitted;
  least = λ other has. is.least other (from other has);
}

offered_same : (P Q : Cell → Type 0) (Admitted : Cell → Type 0) (n : ℕ) (old new : Best) → ((d : Cell) → P d → Q d)
    → ((d : Cell) → Q d → P d) → IsOffered P Admitted n old new → IsOffered Q Admitted n old new
offered_same P Q Admitted n old new to from (inl (none, same)) = inl ((λ other has. none other (from other has)), same)
offered_same P Q Admitted n old new to from (inr (c, answer, cases)) =
    inr (c, least_same P Q Admitted c to from answer, cases)

pub some_region : {R : Type 0} (regions : List R) (n : ℕ) → n < length regions → R
some_region [] n within = absurd (omega (arith, within))
some_region (r ∷ regions) n within = r

module _ {R : Type 0} (F : R → List ℕ) (Has : R → List Cell → Type 0) where
  pub has_at : (regions : List R) (n : ℕ) (d : R) (cells : List Cell) → n < length regions
      → Has (slice_index_or regions n d) cells → HasAt Has regions n cells
  has_at regions n d cells within has = record {
    within = within;
    has = λ e. subst (λ r. Has r cells) (get_or_default regions n d e within) has;
  }

  -- a cell that a row of regions goes on with fits a slot
  pub fits_found : {C : R → List Class} → ((r : R) (cells : List Cell) → Has r cells → IsPieceOf (F r) (C r) cells)
      → (regions : List R) (numbers : List ℕ) (cells : List Cell) (c : Cell)
      → Continues (IsInPart (HasAt Has regions) numbers) cells c → FitsSlot c
  fits_found shaped regions numbers cells c goes =
      let d : R = some_region regions goes.has.number goes.has.has.within in
      (piece_cell (F (slice_index_or regions goes.has.number d)) _ cells c goes.rest
      (shaped _ _ (goes.has.has.has d))).1

  module _ {C : R → List Class} {A : R → ℕ} (initial current : List R) (kept : KeepRegions F C A Has initial current)
      (among wanted : List ℕ)
      (over : All (IsRegionOver F initial wanted) among) (index : ℕ) (within : index < length among) (d : R)
      (got : d ≡ slice_index_or current (slice_index_or among index 0) d)
      (row : List Cell) (position own_position : ℕ) (positions : own_position ≡ position)
      (Admitted : Cell → Type 0) (best : Best)
      (is : IsBest (HasAt Has initial) (piece (take position wanted) row) Admitted (take index among) best) where
    own : IsRegionOver F current wanted (slice_index_or among index 0)
    own = over_new F Has initial current kept wanted (slice_index_or among index 0) (over index 0 within)

    cells_are : piece (take own_position (F d)) row
        ≡ piece (take position wanted) row
    cells_are = ap (λ p. piece (take p (F d)) row) positions
        ∙ ap (λ fs. piece (take position fs) row) (ap F got ∙ own.over d)

    -- the region can be asked now too
    classes_are : C d ≡ C (slice_index_or initial (slice_index_or among index 0) d)
    classes_are = ap C got ∙ kept.classes (slice_index_or among index 0) d (over index 0 within).within

    pub before_now : (mark : Mark) → All (CanBeAsked C initial wanted position row mark) among
        → AreCellsTo own_position (F d) (C d) row
    unfolding classes_are own
    before_now mark askable =
        subst (λ p. AreCellsTo p (F d) (C d) row) (sym positions)
        (subst (λ fs. AreCellsTo position fs (C d) row) (sym (ap F got ∙ own.over d))
        (subst (λ cs. AreCellsTo position wanted cs row) (sym classes_are) ((askable index 0 within).before d)))

    pub mark_now : (mark : Mark) → All (CanBeAsked C initial wanted position row mark) among
        → IsMarkOf (class_at (C d) own_position) mark
    unfolding classes_are
    mark_now mark askable =
        subst (λ p. IsMarkOf (class_at (C d) p) mark) (sym positions)
        (subst (λ cs. IsMarkOf (class_at cs position) mark) (sym classes_are) ((askable index 0 within).within d))

    -- what the region goes on with, the region at the start goes on with
    at_start : (c : Cell) → Continues (Has d)
        (piece (take own_position (F d)) row) c
        → Continues (HasAt Has initial (slice_index_or among index 0)) (piece (take position wanted) row) c
    at_start c goes = record {
      rest = goes.rest;
      has = has_old F Has initial current kept (slice_index_or among index 0) _
          (has_at current (slice_index_or among index 0) d _ own.within
          (subst (λ r. Has r ((piece (take position wanted) row ++ c ∷ []) ++ goes.rest)) got
          (subst (λ cs. Has d ((cs ++ c ∷ []) ++ goes.rest))
          cells_are goes.has)));
    }

    back : (c : Cell) → Continues (HasAt Has initial (slice_index_or among index 0))
        (piece (take position wanted) row) c
        → Continues (Has d)
        (piece (take own_position (F d)) row) c
    back c goes = record {
      rest = goes.rest;
      has = subst (λ cs. Has d ((cs ++ c ∷ []) ++ goes.rest))
          (sym cells_are) (subst (λ r. Has r ((piece (take position wanted) row ++ c ∷ []) ++ goes.rest)) (sym got)
          ((has_new F Has initial current kept (slice_index_or among index 0) _ goes.has).has d));
    }

    pub comparable_best : ((a b : List Cell) → IsInPart (HasAt Has initial) among a
        → IsInPart (HasAt Has initial) among b → AreComparableRows a b) → (c : Cell)
        → Continues (Has d)
        (piece (take own_position (F d)) row) c
        → (best.numbers ≡ []) ⊎ AreComparable c best.cell
    comparable_best comparable c goes = by best.numbers refl
      where
        by : (ns : List ℕ) → best.numbers ≡ ns → (best.numbers ≡ []) ⊎ AreComparable c best.cell
        by [] e = inl e
        by (m ∷ ns) e =
            let found : IsFound (HasAt Has initial) (take index among) (piece (take position wanted) row) Admitted
            best =
            is.found (λ empty. cons_nil m ns (sym e ∙ empty)) in
            let first = at_start c goes in
            let second = found.least.has in
            inr (comparable_cells (piece (take position wanted) row) c best.cell first.rest second.rest
            (comparable _ _
            (record {
              number = slice_index_or among index 0;
              listed = Contains-get_or among index 0 within;
              has = first.has;
            })
            (record {
              number = second.has.number;
              listed = contains_taken among index second.has.number second.has.listed;
              has = second.has.has;
            })))

    pub best_next : (new : Best) → IsOffered (Continues (Has d)
        (piece (take own_position (F d)) row)) Admitted
        (slice_index_or among index 0) best new
        → IsBest (HasAt Has initial) (piece (take position wanted) row) Admitted (take (index + 1) among) new
    best_next new offered =
        subst (λ ns. IsBest (HasAt Has initial) (piece (take position wanted) row) Admitted ns new)
        (sym (take_more among index 0 within))
        (best_more (HasAt Has initial) (piece (take position wanted) row) Admitted (take index among)
        (slice_index_or among index 0) best is new (offered_same _ _ Admitted (slice_index_or among index 0) best new
        at_start back offered))

    -- the region's question keeps the regions
    pub kept_next : (region : R) → F region ≡ F d → C region ≡ C d → A d ≤ A region
        → ((cells : List Cell) → Has region cells ↔ Has d cells)
        → KeepRegions F C A Has initial (slice_set current (slice_index_or among index 0) region)
    kept_next region fields classes asked rows =
        kept_both F Has initial current _ kept
        (kept_one F Has current (slice_index_or among index 0) region own.within
        (λ e. (fields ∙ ap F got) ∙ ap F (get_or_default current (slice_index_or among index 0) d e own.within))
        (λ e. (classes ∙ ap C got) ∙ ap C (get_or_default current (slice_index_or among index 0) d e own.within))
        (λ e. subst (λ r. A r ≤ A region)
        (got ∙ get_or_default current (slice_index_or among index 0) d e own.within) asked)
        (λ e cells. subst (λ r. Has region cells ↔ Has r cells)
        (get_or_default current (slice_index_or among index 0) d e own.within)
        (subst (λ r. Has region cells ↔ Has r cells) got (rows cells))))

    -- and counts once
    pub asked_next : (asked : R → ℕ) (region : R)
        → asked region ≤ asked d + 1
        → sum_by asked current ≤ sum_by asked initial + index
        → sum_by asked (slice_set current (slice_index_or among index 0) region) ≤ sum_by asked initial + (index + 1)
    asked_next asked region once before =
        omega (
          arith,
          subst (λ r. asked region ≤ asked r + 1) got once,
          before,
          sum_by-set asked current
              (slice_index_or among index 0) region d own.within,
        )
