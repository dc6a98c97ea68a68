-- Rows by the first field in which they differ, and the next row of a set, field by field.
use Rattle.std.proofs.Common.{◌≡◌, ℕ, zero, suc, ◌+◌, ◌<◌, ◌≤◌, List, [], ◌∷◌, None, Some, length, refl, sym, ◌∙◌, ap, subst, ⊎_elim, arith}
use Rattle.std.proofs.lemmas.Bool.{cases_lt}
use Rattle.std.proofs.lemmas.Cmp.{tied_itself}
use Rattle.std.specs.Ordering.{ordering_then}
use Rattle.std.specs.declared.cmp.Ordering.{Ordering}
use Rattle.std.specs.declared.cmp.Ordering.TheVariants.{Less, Equal, Greater}
use Rattle.helix_profile.specs.AscendingLaws.{not_back as rows_not_back}
use Rattle.helix_rows.proofs.CellOrder.{same_cell, not_itself}
use Rattle.helix_rows.specs.Inner.Answers.{IsLeastAt, IsLastFrom, IsRaised}
use Rattle.helix_rows.specs.Inner.Levels.{Agree}
use Rattle.helix_rows.specs.Parts.{IsNextRow}
use Rattle.helix_rows.specs.Regions.{cell_at, IsFirstChange}
use Rattle.helix_values.proofs.TotalOrder.{cell_cmp_total, row_cmp_total}
use Rattle.helix_values.specs.Order.{cell_cmp, row_cmp, CellLess, RowLess}
use Rattle.helix_values.specs.declared.cell.Cell.{Cell}

-- equal heads leave the rest
pub then_rest : (a b : Cell) (xs ys : List Cell) → a ≡ b → row_cmp (a ∷ xs) (b ∷ ys) ≡ row_cmp xs ys
then_rest a b xs ys same = ap (λ o. ordering_then o (row_cmp xs ys))
    (subst (λ c. cell_cmp a c ≡ Equal) same (tied_itself cell_cmp_total a))

-- a lesser head is enough
pub then_head : (a b : Cell) (xs ys : List Cell) → CellLess a b → RowLess (a ∷ xs) (b ∷ ys)
then_head a b xs ys less = ap (λ o. ordering_then o (row_cmp xs ys)) less

-- a row is below another one of the same length from the first field in which they differ
pub first_change : (a b : List Cell) → length a ≡ length b → RowLess a b
    → (field : ℕ) × IsFirstChange field a b
first_change [] [] long less = absurd (less_equal less)
  where
    less_equal : Equal ≡ Less → ⊥
    less_equal e = cc e
first_change [] (b ∷ ys) long less = absurd (omega (arith, long))
first_change (a ∷ xs) [] long less = absurd (omega (arith, long))
first_change (a ∷ xs) (b ∷ ys) long less = by (λ same below. first_change xs ys same below) (cell_cmp a b) refl
  where
    greater_less : Greater ≡ Less → ⊥
    greater_less e = cc e

    by : (length xs ≡ length ys → RowLess xs ys → (field : ℕ) × IsFirstChange field xs ys) → (o : Ordering)
        → cell_cmp a b ≡ o → (field : ℕ) × IsFirstChange field (a ∷ xs) (b ∷ ys)
    by later Less is = (
      0,
      record {
        within = omega (arith, long);
        same = λ f inside. absurd (omega (arith, inside));
        above = is;
      },
    )
    by later Equal is =
        let same : a ≡ b = same_cell a b is in
        let rest = later (omega (arith, long)) (sym (then_rest a b xs ys same) ∙ less) in (
          suc rest.0,
          record {
            within = omega (arith, rest.1.within);
            same = elim_first same rest.1.same;
            above = rest.1.above;
          },
        )
      where
        elim_first : a ≡ b → {n : ℕ} → Agree n xs ys → Agree (suc n) (a ∷ xs) (b ∷ ys)
        elim_first same agree zero inside = same
        elim_first same agree (suc f) inside = agree f (omega (arith, inside))
    by later Greater is = absurd (greater_less (sym (ap (λ o. ordering_then o (row_cmp xs ys)) is) ∙ less))

pub below_from : (a b : List Cell) (field : ℕ) → length a ≡ length b → IsFirstChange field a b → RowLess a b
below_from [] b field long change = absurd (omega (arith, change.within, long))
below_from (a ∷ xs) [] field long change = absurd (omega (arith, long))
below_from (a ∷ xs) (b ∷ ys) zero long change = then_head a b xs ys change.above
below_from (a ∷ xs) (b ∷ ys) (suc field) long change =
    then_rest a b xs ys (change.same 0 (omega (arith)))
    ∙ below_from xs ys field (omega (arith, long)) (record {
      within = omega (arith, change.within);
      same = λ f inside. change.same (suc f) (omega (arith, inside));
      above = change.above;
    })

-- before the first change of two rows they agree, and there the order decides
changed_at : (a b : List Cell) (n field : ℕ) → Agree field b a → IsFirstChange n a b → n < field → ⊥
changed_at a b n field agree change less =
    not_itself (cell_at a n) (subst (λ c. CellLess (cell_at a n) c) (agree n less) change.above)

agree_back : (n : ℕ) (a b : List Cell) → Agree n a b → Agree n b a
agree_back n a b agree f less = sym (agree f less)

agree_less : (n m : ℕ) (a b : List Cell) → m ≤ n → Agree n a b → Agree m a b
agree_less n m a b within agree f less = agree f (omega (arith, within, less))

pub agree_both : (n : ℕ) (a b c : List Cell) → Agree n a b → Agree n b c → Agree n a c
agree_both n a b c first second f less = first f less ∙ second f less

-- three places of a number
pub place : {P : Type 0} (n m : ℕ) → (n < m → P) → (n ≡ m → P) → (m < n → P) → P
place n m before at after =
    ⊎_elim before (λ from. ⊎_elim after (λ up. at (omega (arith, from, up))) (cases_lt m n)) (cases_lt n m)

module _ (In : List Cell → Type 0) (count : ℕ) (long : (row : List Cell) → In row → length row ≡ count) where
  -- nothing is above all rows of the set
  pub last_at_end : (row : List Cell) → length row ≡ count → IsLastFrom In row count
  last_at_end row is other member agree less =
      let change = first_change row other (is ∙ sym (long other member)) less in
      changed_at row other change.0 count agree change.1 (omega (arith, change.1.within, long other member))

  pub last_down : (row : List Cell) (field : ℕ) → length row ≡ count → IsLastFrom In row (field + 1)
      → ((other : List Cell) → In other → Agree field other row → ¬
      (CellLess (cell_at row field) (cell_at other field)))
      → IsLastFrom In row field
  last_down row field is last none other member agree less =
      let change = first_change row other (is ∙ sym (long other member)) less in
      place change.0 field (λ before. changed_at row other change.0 field agree change.1 before)
      (λ at. none other member agree (subst (λ f. CellLess (cell_at row f) (cell_at other f)) at change.1.above))
      (λ after. last other member
      (agree_back (field + 1) row other (agree_less change.0 (field + 1) row other (omega (arith, after))
      change.1.same)) less)

  pub last_at : (row : List Cell) (field : ℕ) → length row ≡ count
      → ((other : List Cell) → In other → Agree field other row → ¬
      (CellLess (cell_at row field) (cell_at other field)))
      → ((other : List Cell) → In other → Agree field other row → ¬ (cell_at other field ≡ cell_at row field))
      → IsLastFrom In row field
  last_at row field is none different other member agree less =
      let change = first_change row other (is ∙ sym (long other member)) less in
      place change.0 field (λ before. changed_at row other change.0 field agree change.1 before)
      (λ at. none other member agree (subst (λ f. CellLess (cell_at row f) (cell_at other f)) at change.1.above))
      (λ after. different other member agree (sym (change.1.same field after)))

  -- the least row of the set
  pub least_row : (new : List Cell) → length new ≡ count → In new
      → ((field : ℕ) → field < count → IsLeastAt In new field) → IsNextRow In None new
  least_row new is member least = record {
    is_in = member;
    above = tt;
    least = λ other inside above less.
        let change = first_change other new (long other inside ∙ sym is) less in
        least change.0 (omega (arith, change.1.within, is)) other inside change.1.same change.1.above;
  }

  module _ (old mid new : List Cell) (field : ℕ) (long_old : length old ≡ count) (long_new : length new ≡ count)
      (raised : IsRaised In old mid field) (agree : Agree (field + 1) new mid) where
    agree_old : Agree field new old
    agree_old f less = agree f (omega (arith, less)) ∙ sym (raised.change.same f less)

    pub changed_new : length mid ≡ count → IsFirstChange field old new
    unfolding agree_old
    changed_new long_mid = record {
      within = omega (arith, raised.change.within, long_mid, long_new);
      same = λ f less. sym (agree_old f less);
      above = subst (λ c. CellLess (cell_at old field) c) (sym (agree field (omega arith))) raised.change.above;
    }

    pub next_row : length mid ≡ count → In new → ((f : ℕ) → field + 1 ≤ f → f < count → IsLeastAt In new f)
        → IsNextRow In (Some old) new
    next_row long_mid member least = record {
      is_in = member;
      above = below_from old new field (long_old ∙ sym long_new) (changed_new long_mid);
      least = λ other inside above less. none other inside above
          (first_change other new (long other inside ∙ sym long_new) less);
    }
      where
        none : (other : List Cell) → In other → RowLess old other → (n : ℕ) × IsFirstChange n other new → ⊥
        none other inside above (n, change) = place n field
            (λ before. row_back (below_from other old n (long other inside ∙ sym long_old) (record {
              within = omega (arith, before, raised.change.within, long_mid, long_old);
              same = λ f less. change.same f less ∙ agree_old f (omega (arith, less, before));
              above = subst (λ c. CellLess (cell_at other n) c) (agree_old n before) change.above;
            })))
            (λ at. at_field (subst (λ f. IsFirstChange f other new) at change)
            (first_change old other (long_old ∙ sym (long other inside)) above))
            (λ after. least n (omega (arith, after)) (omega (arith, change.within, long_new)) other inside change.same
            change.above)
          where
            row_back : RowLess other old → ⊥
            row_back back = rows_not_back row_cmp_total old other above back

            at_field : IsFirstChange field other new → (m : ℕ) × IsFirstChange m old other → ⊥
            at_field here (m, first) =
                let with_old : Agree field other old = agree_both field other new old here.same agree_old in
                place m field (λ before. changed_at old other m field with_old first before)
                (λ at. raised.least other inside with_old
                (subst (λ f. CellLess (cell_at old f) (cell_at other f)) at first.above)
                (subst (λ c. CellLess (cell_at other field) c) (agree field (omega arith)) here.above))
                (λ after. raised.last other inside
                (agree_back (field + 1) old other (agree_less m (field + 1) old other (omega (arith, after))
                first.same))
                above)
