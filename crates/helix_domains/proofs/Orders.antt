-- Cells in ascending order, and those that a mark admits.
use Rattle.std.proofs.Common.{◌≡◌, ◌↔◌, ℕ, ◌+◌, ◌≤◌, ◌<◌, ◌⊎◌, inl, inr, false, true, List, length, get_or, refl, sym, ap, ◌∙◌, subst, ⊎_elim, arith, Ordering}
use Rattle.std.specs.declared.cmp.Ordering.TheVariants.{Less, Equal, Greater}
use Rattle.std.specs.List.{Contains, AllWithin}
use Rattle.std.specs.Ordering.{is_lt, is_eq, ordering_reverse}
use Rattle.std.proofs.lemmas.Bool.{cases_lt}
use Rattle.std.proofs.lemmas.List.{get_or_default}
use Rattle.helix_values.proofs.TotalOrder.{cell_cmp_total, cell_cmp-IsAntisymmetric, never_before_itself}
use Rattle.helix_values.specs.Marks.{IsAdmitted}
use Rattle.helix_values.specs.Order.{cell_cmp, CellLess}
use Rattle.helix_values.specs.View.{cell_of}
use Rattle.helix_values.specs.declared.cell.Cell.{Cell}
use Rattle.helix_values.specs.declared.cell.CellRef.{CellRef}
use Rattle.helix_values.specs.declared.mark.Mark.{Mark}
use Rattle.helix_values.specs.declared.mark.Mark.TheVariants.{Start, At, After}
use Rattle.helix_words.specs.Questions.{IsLeastAdmitted}
use Rattle.helix_domains.specs.Form.{AreAscending}

pub not_less : (o : Ordering) → is_lt o ≡ false → o ≡ Less → ⊥
not_less o not less = let t : true ≡ false = sym (ap is_lt less) ∙ not in cc

-- what is after a cell is after one that isn't above it
pub above_both : (a b c : Cell) → is_lt (cell_cmp b a) ≡ false → CellLess b c → CellLess a c
above_both a b c not less = by (cell_cmp b a) refl not
  where
    by : (o : Ordering) → cell_cmp b a ≡ o → is_lt o ≡ false → CellLess a c
    by Less e not = cc
    by Equal e not = sym (cell_cmp_total.congr b a c e) ∙ less
    by Greater e not =
        cell_cmp_total.trans a b c (cell_cmp_total.antisymm a b ∙ ap ordering_reverse e) less

-- what is before a cell is before one that isn't below it
pub below_both : (a b c : Cell) → is_lt (cell_cmp b a) ≡ false → CellLess c a → CellLess c b
below_both a b c not less = by (cell_cmp b a) refl not
  where
    by : (o : Ordering) → cell_cmp b a ≡ o → is_lt o ≡ false → CellLess c b
    by Less e not = cc
    by Equal e not =
        cell_cmp_total.antisymm c b ∙ ap ordering_reverse (cell_cmp_total.congr b a c e
        ∙ cell_cmp_total.antisymm a c ∙ ap ordering_reverse less)
    by Greater e not =
        cell_cmp_total.trans c a b less (cell_cmp_total.antisymm a b ∙ ap ordering_reverse e)

-- a mark that admits a cell admits each that isn't below it
pub admitted_above : (mark : Mark) (a b : Cell) → is_lt (cell_cmp b a) ≡ false → IsAdmitted mark a → IsAdmitted mark b
admitted_above Start a b not admitted = tt
admitted_above (At bound) a b not admitted = λ less. admitted (above_both a b (cell_of bound) not less)
admitted_above (After bound) a b not admitted = below_both a b (cell_of bound) not admitted

-- a cell isn't before one that it is above, nor before itself
not_before : (a b : Cell) → CellLess a b → is_lt (cell_cmp b a) ≡ false
not_before a b less = ap is_lt (cell_cmp_total.antisymm b a ∙ ap ordering_reverse less)

not_itself : (x : Cell) → is_lt (cell_cmp x x) ≡ false
not_itself x = by (cell_cmp x x) refl
  where
    by : (o : Ordering) → cell_cmp x x ≡ o → is_lt o ≡ false
    by Less e = absurd (never_before_itself cell_cmp_total x e)
    by Equal e = refl
    by Greater e = refl

module _ (cells : List Cell) (ascending : AreAscending cells) where
  pub in_order : (i j : ℕ) (d : Cell) → i ≤ j → j < length cells
      → is_lt (cell_cmp (get_or cells j d) (get_or cells i d)) ≡ false
  in_order i j d before within = by (cases_lt i j)
    where
      by : (i < j) ⊎ (j ≤ i) → is_lt (cell_cmp (get_or cells j d) (get_or cells i d)) ≡ false
      by (inl less) = not_before (get_or cells i d) (get_or cells j d) (ascending i j d less within)
      by (inr not) =
          let same : j ≡ i = omega (arith, before, not) in
          subst (λ k. is_lt (cell_cmp (get_or cells j d) (get_or cells k d)) ≡ false) same
          (not_itself (get_or cells j d))

  -- the cells from an admitted one on are admitted, and those up to one that isn't aren't
  pub all_from : (mark : Mark) (i : ℕ) (e : Cell) → i < length cells → IsAdmitted mark (get_or cells i e)
      → AllWithin (IsAdmitted mark) cells i (length cells)
  all_from mark i e within admitted k d from below =
      admitted_above mark (get_or cells i d) (get_or cells k d) (in_order i k d from below)
      (subst (IsAdmitted mark) (get_or_default cells i e d within) admitted)

  pub none_to : (mark : Mark) (i : ℕ) (e : Cell) → i < length cells → ¬ IsAdmitted mark (get_or cells i e)
      → AllWithin (λ cell. ¬ IsAdmitted mark cell) cells 0 (i + 1)
  none_to mark i e within not k d from below admitted =
      not (subst (IsAdmitted mark) (get_or_default cells i d e within)
      (admitted_above mark (get_or cells k d) (get_or cells i d) (in_order k i d (omega arith) within) admitted))

  module _ (mark : Mark) (index : ℕ) (before : AllWithin (λ cell. ¬ IsAdmitted mark cell) cells 0 index)
      (from : AllWithin (IsAdmitted mark) cells index (length cells)) where
    -- an admitted cell is at the index or after it
    comes_after : (v : Cell) (k : ℕ) → get_or cells k v ≡ v → IsAdmitted mark v → index ≤ k
    comes_after v k is admitted = ⊎_elim (λ early. absurd (before k v (omega arith) early
        (subst (IsAdmitted mark) (sym is) admitted))) (λ late. late) (cases_lt k index)

    pub least_at : (d : Cell) → index < length cells → IsLeastAdmitted (Contains cells) mark (get_or cells index d)
    least_at d within = record {
      has = (index, within, get_or_default cells index (get_or cells index d) d within);
      admitted = from index d (omega arith) within;
      least = λ other has admitted less. not_less (cell_cmp other (get_or cells index d))
          (subst (λ o. is_lt (cell_cmp o (get_or cells index d)) ≡ false)
          (get_or_default cells has.0 d other has.1 ∙ has.2)
          (in_order index has.0 d (comes_after other has.0 has.2 admitted) has.1)) less;
    }

    pub none_past : length cells ≤ index → (other : Cell) → Contains cells other → ¬ IsAdmitted mark other
    none_past past other has admitted =
        before has.0 other (omega arith) (omega (arith, has.1)) (subst (IsAdmitted mark) (sym has.2) admitted)

  module _ (bound : Mark) (value : Cell) (index : ℕ) (admits : IsAdmitted bound value)
      (reaches : (v : Cell) → IsAdmitted bound v → ¬ CellLess v value)
      (before : AllWithin (λ cell. ¬ IsAdmitted bound cell) cells 0 index)
      (from : AllWithin (IsAdmitted bound) cells index (length cells)) where
    -- a listed value is the first of the cells that aren't below it
    tied_at : (d : Cell) → Contains cells value → (index < length cells) × (cell_cmp (get_or cells index d) value
        ≡ Equal)
    tied_at d has =
        let after : index ≤ has.0 = comes_after bound index before from value has.0 has.2 admits in
        let within : index < length cells = omega (arith, has.1) in (
          within,
          tied (cell_cmp (get_or cells index d) value) refl
              (reaches (get_or cells index d) (from index d (omega arith) within))
              (subst (λ o. is_lt (cell_cmp o (get_or cells index d)) ≡ false)
              (get_or_default cells has.0 d value has.1 ∙ has.2) (in_order index has.0 d after has.1)),
        )
      where
        tied : (o : Ordering) → cell_cmp (get_or cells index d) value ≡ o → ¬ (cell_cmp (get_or cells index d) value
            ≡ Less)
            → is_lt (cell_cmp value (get_or cells index d)) ≡ false → cell_cmp (get_or cells index d) value ≡ Equal
        tied Less e not low = absurd (not e)
        tied Equal e not low = e
        tied Greater e not low = absurd (not_less (cell_cmp value (get_or cells index d)) low
            (cell_cmp_total.antisymm value (get_or cells index d) ∙ ap ordering_reverse e))

-- where the first of the cells that aren't below a value is known
module _ (cells : List Cell) (ascending : AreAscending cells) (bound : CellRef) (index : ℕ)
    (before : AllWithin (λ cell. ¬ IsAdmitted (At bound) cell) cells 0 index)
    (from : AllWithin (IsAdmitted (At bound)) cells index (length cells)) where
  itself : IsAdmitted (At bound) (cell_of bound)
  itself less = never_before_itself cell_cmp_total (cell_of bound) less

  -- the value is listed where that cell ties with it
  pub is_first : (cell : Cell) (order : Ordering) → index < length cells → cell ≡ get_or cells index cell
      → order ≡ cell_cmp cell (cell_of bound) → (is_eq order ≡ true) ↔ Contains cells (cell_of bound)
  is_first cell order within is answer = (
    (λ equal. (
      index,
      within,
      get_or_default cells index (cell_of bound) cell within ∙ sym is
          ∙ cell_cmp-IsAntisymmetric cell (cell_of bound) (sym answer ∙ tied order equal),
    )),
    (λ has. ap is_eq (answer ∙ ap (λ c. cell_cmp c (cell_of bound)) is ∙ (tied_at cells ascending (At bound)
        (cell_of bound) index itself (λ v admitted. admitted) before from cell has).1)),
  )
    where
      tied : (o : Ordering) → is_eq o ≡ true → o ≡ Equal
      tied Less equal = cc
      tied Equal equal = refl
      tied Greater equal = cc

  -- and isn't where there is no such cell
  pub none_first : length cells ≤ index → ¬ Contains cells (cell_of bound)
  none_first past has = none_past cells ascending (At bound) index before from past (cell_of bound) has itself

-- a set has a value exactly where the least one from there on is it
module _ (Has : Cell → Type 0) (bound : CellRef) where
  pub least_is_it : (least : Cell) (order : Ordering) → IsLeastAdmitted Has (At bound) least
      → order ≡ cell_cmp least (cell_of bound) → (is_eq order ≡ true) ↔ Has (cell_of bound)
  least_is_it least order found answer = (
    (λ equal. subst Has (cell_cmp-IsAntisymmetric least (cell_of bound) (sym answer ∙ tied order equal)) found.has),
    (λ has. ap is_eq (answer ∙ meet (cell_cmp least (cell_of bound)) refl found.admitted
        (found.least (cell_of bound) has (λ less. never_before_itself cell_cmp_total (cell_of bound) less)))),
  )
    where
      tied : (o : Ordering) → is_eq o ≡ true → o ≡ Equal
      tied Less equal = cc
      tied Equal equal = refl
      tied Greater equal = cc

      meet : (o : Ordering) → cell_cmp least (cell_of bound) ≡ o → ¬ CellLess least (cell_of bound)
          → ¬ CellLess (cell_of bound) least → cell_cmp least (cell_of bound) ≡ Equal
      meet Less e low high = absurd (low e)
      meet Equal e low high = e
      meet Greater e low high = absurd (high (cell_cmp_total.antisymm (cell_of bound) least ∙ ap ordering_reverse e))

  pub none_is_it : ((other : Cell) → Has other → ¬ IsAdmitted (At bound) other) → ¬ Has (cell_of bound)
  none_is_it none has = none (cell_of bound) has (λ less. never_before_itself cell_cmp_total (cell_of bound) less)
