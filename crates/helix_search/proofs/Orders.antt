-- The order of cells, and how many values are left from one on.
use Rattle.std.proofs.Common.{◌≡◌, ℕ, ◌-◌, ◌<◌, ◌⊎◌, inl, inr, refl, sym, ◌∙◌, subst, Ordering}
use Rattle.std.specs.declared.cmp.Ordering.TheVariants.{Less, Equal, Greater}
use Rattle.std.specs.Ordering.{ordering_reverse}
use Rattle.helix_values.proofs.MarkCounts.{fewer}
use Rattle.helix_values.proofs.TotalOrder.{cell_cmp_total, cell_cmp-IsAntisymmetric, never_before_itself}
use Rattle.helix_values.specs.declared.cell.Cell.{Cell}
use Rattle.helix_values.specs.declared.cell.Cell.TheVariants as cell
use Rattle.helix_values.specs.declared.cell.CellRef.{CellRef}
use Rattle.helix_values.specs.declared.cell.CellRef.TheVariants as borrowed
use Rattle.helix_values.specs.declared.mark.Mark.TheVariants.{At}
use Rattle.helix_values.specs.Class.{Class, booleans, numbers, strings, moments}
use Rattle.helix_values.specs.Counts.{values_of, values_below, IsMarkBound}
use Rattle.helix_values.specs.Order.{cell_cmp, CellLess}
use Rattle.helix_values.specs.Slot.{FitsSlot}
use Rattle.helix_values.specs.View.{cell_of}
use Rattle.helix_search.specs.Bounds.{IsValue}

reversed : (o : Ordering) → ordering_reverse o ≡ Greater → o ≡ Less
reversed Less is = refl
reversed Equal is = cc
reversed Greater is = cc

-- of two cells one is before the other, or they are the same
pub cases_cell : (a b : Cell) → CellLess a b ⊎ ((a ≡ b) ⊎ CellLess b a)
cases_cell a b = by (cell_cmp a b) refl
  where
    by : (o : Ordering) → cell_cmp a b ≡ o → CellLess a b ⊎ ((a ≡ b) ⊎ CellLess b a)
    by Less is = inl is
    by Equal is = inr (inl (cell_cmp-IsAntisymmetric a b is))
    by Greater is = inr (inr (reversed (cell_cmp b a) (sym (cell_cmp_total.antisymm a b) ∙ is)))

pub less_more : (a b c : Cell) → CellLess a b → CellLess b c → CellLess a c
less_more a b c first second = cell_cmp_total.trans a b c first second

pub never_less : (a : Cell) → ¬ CellLess a a
never_less a less = never_before_itself cell_cmp_total a less

pub never_both : (a b : Cell) → CellLess a b → ¬ CellLess b a
never_both a b before after = never_less a (less_more a b a before after)

-- a cell that isn't below one that isn't below a third isn't below the third
pub from_both : (a b c : Cell) → ¬ CellLess b a → ¬ CellLess c b → ¬ CellLess c a
from_both a b c first second less = elim (cases_cell a b) [
  | inl before ↦ second (less_more c a b less before)
  | inr (inl same) ↦ second (subst (λ x. CellLess c x) same less)
  | inr (inr after) ↦ first after
]

pub less_from : (a b c : Cell) → CellLess a b → ¬ CellLess c b → CellLess a c
less_from a b c less from = elim (cases_cell a c) [
  | inl before ↦ before
  | inr (inl same) ↦ absurd (from (subst (λ x. CellLess x b) same less))
  | inr (inr after) ↦ absurd (from (less_more c a b after less))
]

-- two cells of which neither is before the other are one
pub same_cell : (a b : Cell) → ¬ CellLess a b → ¬ CellLess b a → a ≡ b
same_cell a b not_before not_after = elim (cases_cell a b) [
  | inl before ↦ absurd (not_before before)
  | inr (inl same) ↦ same
  | inr (inr after) ↦ absurd (not_after after)
]

-- a value can be the bound of a mark, and fits a slot
pub value_is_bound : (class : Class) (v : Cell) → IsValue class v → IsMarkBound class v
value_is_bound booleans (cell.Bool b) within = refl
value_is_bound numbers (cell.Number u) within = refl
value_is_bound moments (cell.Moment at) within = refl
value_is_bound strings (cell.Text text) within = (refl, within.1)
value_is_bound booleans other within = absurd within
value_is_bound numbers other within = absurd within
value_is_bound moments other within = absurd within
value_is_bound strings other within = absurd within

pub value_fits : (class : Class) (v : Cell) → IsValue class v → FitsSlot v
value_fits booleans (cell.Bool b) within = tt
value_fits numbers (cell.Number u) within = tt
value_fits moments (cell.Moment at) within = tt
value_fits strings (cell.Text text) within = within.0
value_fits booleans other within = absurd within
value_fits numbers other within = absurd within
value_fits moments other within = absurd within
value_fits strings other within = absurd within

-- how many values of a class are left from one on
abbrev pub left : Class → Cell → ℕ
left class v = values_of class - values_below class v

borrow : Cell → CellRef
borrow cell.Null = borrowed.Null
borrow (cell.Bool truth) = borrowed.Bool truth
borrow (cell.Number units) = borrowed.Number units
borrow (cell.Moment at) = borrowed.Moment at
borrow (cell.Text codes) = borrowed.Text (record { ref_ptr = (0, 0); now = codes })

same_borrowed : (v : Cell) → cell_of (borrow v) ≡ v
unfolding borrow
same_borrowed cell.Null = refl
same_borrowed (cell.Bool truth) = refl
same_borrowed (cell.Number units) = refl
same_borrowed (cell.Moment at) = refl
same_borrowed (cell.Text codes) = refl

pub left_falls : (class : Class) (p q : Cell) → IsValue class p → IsValue class q → CellLess p q
    → left class q < left class p
left_falls class p q of_p of_q less =
    subst (λ x. left class x < left class p) (same_borrowed q)
    (subst (λ x. left class (cell_of (borrow q)) < left class x) (same_borrowed p)
    (fewer class (At (borrow p)) (At (borrow q)) p
    (subst (IsMarkBound class) (sym (same_borrowed p)) (value_is_bound class p of_p))
    (subst (IsMarkBound class) (sym (same_borrowed q)) (value_is_bound class q of_q)) of_p
    (subst (λ x. ¬ CellLess p x) (sym (same_borrowed p)) (never_less p))
    (λ from. by_less from)))
  where
    by_less : (¬ CellLess p (cell_of (borrow q))) → ⊥
    by_less from = from (subst (λ x. CellLess p x) (sym (same_borrowed q)) less)
