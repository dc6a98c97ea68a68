-- Questions that keep the regions.
use Rattle.std.proofs.Common.{◌≡◌, ◌↔◌, ◌⊎◌, inl, inr, ℕ, ◌<◌, ◌≤◌, List, length, slice_index_or, slice_set, refl, sym, ◌∙◌, ap, subst, arith, ⊎_elim}
use Rattle.std.proofs.lemmas.Bool.{cases_lt}
use Rattle.std.proofs.lemmas.List.{get_or-set_same, get_or-set_other, length-set}
use Rattle.helix_rows.specs.Inner.Levels.{KeepRegions}
use Rattle.helix_rows.specs.Parts.{HasAt, IsInPart, IsRegionOver, IsInParts}
use Rattle.helix_rows.specs.Regions.{Begins}
use Rattle.helix_rows.specs.declared.part.Part.{Part}
use Rattle.helix_values.specs.Class.{Class}
use Rattle.helix_values.specs.declared.cell.Cell.{Cell}

pub same_or_not : (n m : ℕ) → (n ≡ m) ⊎ ¬ (n ≡ m)
same_or_not n m = ⊎_elim (λ less. inr (λ e. omega (arith, less, e)))
    (λ from. ⊎_elim (λ less. inr (λ e. omega (arith, less, e))) (λ up. inl (omega (arith, from, up))) (cases_lt m n))
    (cases_lt n m)

module _ {R : Type 0} {C : R → List Class} {A : R → ℕ} (F : R → List ℕ)
    (Has : R → List Cell → Type 0) where
  -- nothing is asked
  pub kept_none : (regions : List R) → KeepRegions F C A Has regions regions
  kept_none regions = record {
    count = refl;
    fields = λ n d within. refl;
    classes = λ n d within. refl;
    asked = λ n d within. omega arith;
    rows = λ n d cells within. ((λ has. has), (λ has. has));
  }

  -- one set of questions after another
  pub kept_both : (old mid new : List R) → KeepRegions F C A Has old mid → KeepRegions F C A Has mid new
      → KeepRegions F C A Has old new
  kept_both old mid new first second = record {
    count = second.count ∙ first.count;
    fields = λ n d within. second.fields n d (subst (λ k. n < k) (sym first.count) within) ∙ first.fields n d within;
    classes = λ n d within. second.classes n d (subst (λ k. n < k) (sym first.count) within) ∙ first.classes n d within;
    asked = λ n d within. omega (
      arith,
      second.asked n d (subst (λ k. n < k) (sym first.count) within),
      first.asked n d within,
    );
    rows = λ n d cells within. (
      (λ has. (first.rows n d cells within).0 ((second.rows n d cells (subst (λ k. n < k) (sym first.count) within)).0
          has)),
      (λ has. (second.rows n d cells (subst (λ k. n < k) (sym first.count) within)).1
          ((first.rows n d cells within).1 has)),
    );
  }

  -- one region is asked
  module _ (old : List R) (i : ℕ) (region : R) (within_i : i < length old)
      (fields : (d : R) → F region ≡ F (slice_index_or old i d))
      (classes : (d : R) → C region ≡ C (slice_index_or old i d))
      (asked : (d : R) → A (slice_index_or old i d) ≤ A region)
      (rows : (d : R) (cells : List Cell) → Has region cells ↔ Has (slice_index_or old i d) cells) where
    pub kept_one : KeepRegions F C A Has old (slice_set old i region)
    kept_one = record {
      count = length-set old i region;
      fields = λ n d within. (at n d within (same_or_not n i)).0;
      classes = λ n d within. (at n d within (same_or_not n i)).1;
      asked = λ n d within. (at n d within (same_or_not n i)).2;
      rows = λ n d cells within. (at n d within (same_or_not n i)).3 cells;
    }
      where
        at : (n : ℕ) (d : R) → n < length old → (n ≡ i) ⊎ ¬ (n ≡ i)
            → (F (slice_index_or (slice_set old i region) n d) ≡ F (slice_index_or old n d))
            × (C (slice_index_or (slice_set old i region) n d) ≡ C (slice_index_or old n d))
            × (A (slice_index_or old n d) ≤ A (slice_index_or (slice_set old i region) n d))
            × ((cells : List Cell) → Has (slice_index_or (slice_set old i region) n d) cells ↔ Has
            (slice_index_or old n d) cells)
        at n d within (inl e) =
            let now : slice_index_or (slice_set old i region) n d ≡ region =
            ap (λ k. slice_index_or (slice_set old i region) k d) e ∙ get_or-set_same old i region d within_i in (
              ap F now ∙ (fields d ∙ ap (λ k. F (slice_index_or old k d)) (sym e)),
              ap C now ∙ (classes d ∙ ap (λ k. C (slice_index_or old k d)) (sym e)),
              subst (λ k. A (slice_index_or old k d) ≤ A (slice_index_or (slice_set old i region) n d)) (sym e)
                  (subst (λ r. A (slice_index_or old i d) ≤ A r) (sym now) (asked d)),
              λ cells. subst (λ k. Has (slice_index_or (slice_set old i region) n d) cells ↔ Has
                  (slice_index_or old k d) cells)
                  (sym e) (subst (λ r. Has r cells ↔ Has (slice_index_or old i d) cells) (sym now) (rows d cells)),
            )
        at n d within (inr other) =
            let now : slice_index_or (slice_set old i region) n d ≡ slice_index_or old n d =
            get_or-set_other old i n region d other in (
              ap F now,
              ap C now,
              subst (λ r. A (slice_index_or old n d) ≤ A r) (sym now) (omega arith),
              λ cells. subst (λ r. Has r cells ↔ Has (slice_index_or old n d) cells) (sym now)
                  ((λ has. has), (λ has. has)),
            )

  module _ (old new : List R) (kept : KeepRegions F C A Has old new) where
    -- the rows of a region are the same
    pub has_new : (n : ℕ) (cells : List Cell) → HasAt Has old n cells → HasAt Has new n cells
    has_new n cells has = record {
      within = subst (λ k. n < k) (sym kept.count) has.within;
      has = λ d. (kept.rows n d cells has.within).1 (has.has d);
    }

    pub has_old : (n : ℕ) (cells : List Cell) → HasAt Has new n cells → HasAt Has old n cells
    has_old n cells has =
        let within : n < length old = subst (λ k. n < k) kept.count has.within in
        record { within = within; has = λ d. (kept.rows n d cells within).0 (has.has d) }

    pub over_new : (fields : List ℕ) (n : ℕ) → IsRegionOver F old fields n → IsRegionOver F new fields n
    over_new fields n over = record {
      within = subst (λ k. n < k) (sym kept.count) over.within;
      over = λ d. kept.fields n d over.within ∙ over.over d;
    }

-- sets of rows by number that have the same rows
module _ (H G : ℕ → List Cell → Type 0) (to : (n : ℕ) (cells : List Cell) → H n cells → G n cells) where
  pub in_part_to : (numbers : List ℕ) (cells : List Cell) → IsInPart H numbers cells → IsInPart G numbers cells
  in_part_to numbers cells is = record { number = is.number; listed = is.listed; has = to is.number cells is.has }

  pub in_parts_to : (fields : ℕ) (parts : List Part) (row : List Cell) → IsInParts H fields parts row
      → IsInParts G fields parts row
  in_parts_to fields parts row is = record {
    count = is.count;
    each = λ k d within. in_part_to _ _ (is.each k d within);
  }

pub begins_to : (P Q : List Cell → Type 0) → ((cells : List Cell) → P cells → Q cells) → (cells : List Cell)
    → Begins P cells → Begins Q cells
begins_to P Q to cells begun = record { rest = begun.rest; has = to _ begun.has }
