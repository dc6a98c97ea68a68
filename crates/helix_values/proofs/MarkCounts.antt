-- How many values are below a cell, and how many a mark leaves.
use Rattle.std.proofs.Common.{◌≡◌, ℕ, ◌+◌, ◌-◌, ◌^◌, ◌<◌, ◌≤◌, ◌⊎◌, inl, inr, ℤ, pos, negsuc, ◌+ℤ◌, ◌<ℤ◌, true, false, refl, sym, ◌∙◌, subst, arith, Ordering}
use Rattle.std.proofs.lemmas.Int.{ints}
use borrow.Author.Differences.{up, down}
use Rattle.std.specs.declared.cmp.Ordering.TheVariants.{Less, Equal, Greater}
use Rattle.std.specs.Ordering.{MatchOrdering, int_cmp, ordering_reverse}
use Rattle.std.specs.Cmp.{int_ranks}
use Rattle.helix_values.specs.declared.cell.Cell.{Cell}
use Rattle.helix_values.specs.declared.cell.Cell.TheVariants as cell
use Rattle.helix_values.specs.declared.mark.Mark.{Mark}
use Rattle.helix_values.specs.declared.mark.Mark.TheVariants.{Start, At, After}
use Rattle.helix_values.specs.Class.{Class, booleans, numbers, strings, moments}
use Rattle.helix_values.specs.Order.{cell_cmp, CellLess}
use Rattle.helix_values.specs.Universe.{InUniverse}
use Rattle.helix_values.specs.View.{cell_of}
use Rattle.helix_values.specs.Marks.{IsAdmitted}
use Rattle.helix_values.specs.Counts.{widest_kind, natural, values_of, values_below, values_up_to, values_left, IsMarkBound, IsMarkOf}
use Rattle.helix_values.proofs.TotalOrder.{cell_cmp_total, cell_cmp-IsAntisymmetric, never_before_itself}
use Rattle.helix_values.proofs.TextCounts.{text_count, up_to_all, text_counts_rise}

natural_is : (z : ℤ) → natural z ≡ up z - down z
natural_is (pos n) = omega (arith, ints)
natural_is (negsuc n) = omega (arith, ints)

int_less : (x y : ℤ) → int_cmp x y ≡ Less → x <ℤ y
int_less x y less = subst (λ o. MatchOrdering o (x <ℤ y) (x ≡ y) (y <ℤ x)) less (int_ranks x y)

null_last : (b : Cell) → CellLess cell.Null b → ⊥
null_last cell.Null less = cc
null_last (cell.Bool b) less = cc
null_last (cell.Number b) less = cc
null_last (cell.Moment b) less = cc
null_last (cell.Text b) less = cc

-- a later cell has all up to an earlier one below it
counts_rise : (class : Class) (a b : Cell) → IsMarkBound class a → IsMarkBound class b → CellLess a b
    → values_up_to class a ≤ values_below class b
counts_rise class cell.Null b of_a of_b less = absurd (null_last b less)
counts_rise booleans (cell.Bool false) (cell.Bool true) of_a of_b less = omega arith
counts_rise booleans (cell.Bool false) (cell.Bool false) of_a of_b less = cc
counts_rise booleans (cell.Bool true) (cell.Bool false) of_a of_b less = cc
counts_rise booleans (cell.Bool true) (cell.Bool true) of_a of_b less = cc
counts_rise booleans (cell.Bool true) cell.Null of_a of_b less = omega arith
counts_rise booleans (cell.Bool false) cell.Null of_a of_b less = omega arith
counts_rise numbers (cell.Number a) (cell.Number b) of_a of_b less =
    omega (arith, ints, int_less a b less, natural_is (a +ℤ pos 1 +ℤ pos (10 ^ 35)), natural_is (b +ℤ pos (10 ^ 35)))
counts_rise numbers (cell.Number a) cell.Null of_a of_b less = omega arith
counts_rise moments (cell.Moment a) (cell.Moment b) of_a of_b less =
    omega (arith, ints, int_less a b less, natural_is (a +ℤ pos 1), natural_is b)
counts_rise moments (cell.Moment a) cell.Null of_a of_b less = omega arith
counts_rise strings (cell.Text a) (cell.Text b) of_a of_b less =
    text_counts_rise 1000 a b _ _ _ _ of_a.1 of_b.1 (text_count 1000 a) (text_count 1000 b) less
counts_rise strings (cell.Text a) cell.Null of_a of_b less = up_to_all 1000 a _ _ of_a.1 (text_count 1000 a)
counts_rise class a b of_a of_b less = cc

-- a value of the widest universe counts itself
counts_itself : (class : Class) (v : Cell) → InUniverse (widest_kind class) v
    → values_below class v + 1 ≤ values_up_to class v
counts_itself booleans (cell.Bool true) within = omega arith
counts_itself booleans (cell.Bool false) within = omega arith
counts_itself numbers (cell.Number u) within =
    omega (arith, ints, within.0, within.1, natural_is (u +ℤ pos 1 +ℤ pos (10 ^ 35)), natural_is (u +ℤ pos (10 ^ 35)))
counts_itself moments (cell.Moment at) within =
    omega (arith, ints, within.0, within.1, natural_is (at +ℤ pos 1), natural_is at)
counts_itself strings (cell.Text text) within = omega (arith, ((text_count 1000 text).short within.0).1)
counts_itself booleans other within = absurd within
counts_itself numbers other within = absurd within
counts_itself moments other within = absurd within
counts_itself strings other within = absurd within

-- and it is one of all
counts_within : (class : Class) (v : Cell) → InUniverse (widest_kind class) v → values_up_to class v ≤ values_of class
counts_within booleans (cell.Bool true) within = omega arith
counts_within booleans (cell.Bool false) within = omega arith
counts_within numbers (cell.Number u) within = omega arith
counts_within moments (cell.Moment at) within = omega arith
counts_within strings (cell.Text text) within = up_to_all 1000 text _ _ within.1 (text_count 1000 text)
counts_within booleans other within = absurd within
counts_within numbers other within = absurd within
counts_within moments other within = absurd within
counts_within strings other within = absurd within

bound_of : (class : Class) (v : Cell) → InUniverse (widest_kind class) v → IsMarkBound class v
bound_of booleans (cell.Bool b) within = refl
bound_of numbers (cell.Number u) within = refl
bound_of moments (cell.Moment at) within = refl
bound_of strings (cell.Text text) within = (refl, within.1)
bound_of booleans other within = absurd within
bound_of numbers other within = absurd within
bound_of moments other within = absurd within
bound_of strings other within = absurd within

counts_grow : (class : Class) (c : Cell) → values_below class c ≤ values_up_to class c
counts_grow class cell.Null = omega arith
counts_grow class (cell.Bool true) = omega arith
counts_grow class (cell.Bool false) = omega arith
counts_grow class (cell.Number u) = omega (
  arith,
  ints,
  natural_is (u +ℤ pos 1 +ℤ pos (10 ^ 35)),
  natural_is (u +ℤ pos (10 ^ 35)),
)
counts_grow class (cell.Moment at) = omega (arith, ints, natural_is (at +ℤ pos 1), natural_is at)
counts_grow class (cell.Text text) = omega arith

-- of two cells one is before the other, or they are the same
reversed : (o : Ordering) → ordering_reverse o ≡ Greater → o ≡ Less
reversed Less is = refl
reversed Equal is = cc
reversed Greater is = cc

cases_cell : (a b : Cell) → CellLess a b ⊎ ((a ≡ b) ⊎ CellLess b a)
cases_cell a b = by (cell_cmp a b) refl
  where
    by : (o : Ordering) → cell_cmp a b ≡ o → CellLess a b ⊎ ((a ≡ b) ⊎ CellLess b a)
    by Less is = inl is
    by Equal is = inr (inl (cell_cmp-IsAntisymmetric a b is))
    by Greater is = inr (inr (reversed (cell_cmp b a) (sym (cell_cmp_total.antisymm a b) ∙ is)))

never_both : (a b : Cell) → CellLess a b → CellLess b a → ⊥
never_both a b before after = never_before_itself cell_cmp_total a (cell_cmp_total.trans a b a before after)

-- the values that a mark leaves out
pub record LeavesOut (class : Class) (m : Mark) (count : ℕ) : Type 0 where
  pub left : values_left class m ≡ values_of class - count

admits_from : (class : Class) (m : Mark) (v : Cell) → IsMarkOf class m → InUniverse (widest_kind class) v
    → IsAdmitted m v → (count : ℕ) × LeavesOut class m count × (count ≤ values_below class v)
admits_from class Start v of_m within admitted = (0, record { left = omega arith }, omega arith)
admits_from class (At bound) v of_m within admitted = (
  values_below class (cell_of bound),
  record { left = refl },
  elim (cases_cell v (cell_of bound)) [
    | inl before ↦ absurd (admitted before)
    | inr (inl same) ↦ subst (λ c. values_below class c ≤ values_below class v) same (omega arith)
    | inr (inr after) ↦ omega (
      arith,
      counts_grow class (cell_of bound),
      counts_rise class (cell_of bound) v of_m (bound_of class v within) after,
    )
  ],
)
admits_from class (After bound) v of_m within admitted = (
  values_up_to class (cell_of bound),
  record { left = refl },
  counts_rise class (cell_of bound) v of_m (bound_of class v within) admitted,
)

refuses_up_to : (class : Class) (n : Mark) (v : Cell) → IsMarkOf class n → InUniverse (widest_kind class) v
    → (IsAdmitted n v → ⊥) → (count : ℕ) × LeavesOut class n count × (values_below class v + 1 ≤ count)
refuses_up_to class Start v of_n within refused = absurd (refused tt)
refuses_up_to class (At bound) v of_n within refused = (
  values_below class (cell_of bound),
  record { left = refl },
  elim (cases_cell v (cell_of bound)) [
    | inl before ↦ omega (
      arith,
      counts_itself class v within,
      counts_rise class v (cell_of bound) (bound_of class v within) of_n before,
    )
    | inr (inl same) ↦ absurd (refused (λ before. never_before_itself cell_cmp_total v
        (subst (λ c. CellLess v c) (sym same) before)))
    | inr (inr after) ↦ absurd (refused (λ before. never_both v (cell_of bound) before after))
  ],
)
refuses_up_to class (After bound) v of_n within refused = (
  values_up_to class (cell_of bound),
  record { left = refl },
  elim (cases_cell v (cell_of bound)) [
    | inl before ↦
        omega (
          arith,
          counts_itself class v within,
          counts_rise class v (cell_of bound) (bound_of class v within) of_n before,
          counts_grow class (cell_of bound),
        )
    | inr (inl same) ↦ subst (λ c. values_below class v + 1 ≤ values_up_to class c) same (counts_itself class v within)
    | inr (inr after) ↦ absurd (refused after)
  ],
)

pub fewer : (class : Class) (m n : Mark) (v : Cell) → IsMarkOf class m → IsMarkOf class n
    → InUniverse (widest_kind class) v → IsAdmitted m v → (IsAdmitted n v → ⊥)
    → values_left class n < values_left class m
fewer class m n v of_m of_n within admitted refused =
    let before = admits_from class m v of_m within admitted in
    let after = refuses_up_to class n v of_n within refused in
    omega (
      arith,
      before.1.left,
      before.2,
      after.1.left,
      after.2,
      counts_itself class v within,
      counts_within class v within,
    )
