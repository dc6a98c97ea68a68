-- The order of cells.
use Rattle.std.proofs.Common.{◌≡◌, ◌⊎◌, inl, inr, refl, ◌∙◌, ap}
use Rattle.std.specs.Ordering.{ordering_reverse}
use Rattle.std.specs.declared.cmp.Ordering.{Ordering}
use Rattle.std.specs.declared.cmp.Ordering.TheVariants.{Less, Equal, Greater}
use Rattle.helix_values.proofs.TotalOrder.{cell_cmp_total, cell_cmp-IsAntisymmetric, never_before_itself}
use Rattle.helix_values.specs.Order.{cell_cmp, CellLess}
use Rattle.helix_values.specs.declared.cell.Cell.{Cell}

-- cells that tie are equal
pub same_cell : (a b : Cell) → cell_cmp a b ≡ Equal → a ≡ b
same_cell a b tied = cell_cmp-IsAntisymmetric a b tied

-- what is after a cell has it before
pub less_from_greater : (a b : Cell) → cell_cmp a b ≡ Greater → CellLess b a
less_from_greater a b after = cell_cmp_total.antisymm b a ∙ ap ordering_reverse after

-- no cell is before itself
pub not_itself : (a : Cell) → CellLess a a → ⊥
not_itself a before = never_before_itself cell_cmp_total a before

pub less_less : (a b c : Cell) → CellLess a b → CellLess b c → CellLess a c
less_less a b c first second = cell_cmp_total.trans a b c first second

-- nor before one that is before it
pub not_back : (a b : Cell) → CellLess a b → CellLess b a → ⊥
not_back a b before after = not_itself a (less_less a b a before after)

-- two cells are in one order or the other, or equal
pub either : (a b : Cell) → CellLess a b ⊎ ((a ≡ b) ⊎ CellLess b a)
either a b = by (cell_cmp a b) refl
  where
    by : (order : Ordering) → cell_cmp a b ≡ order → CellLess a b ⊎ ((a ≡ b) ⊎ CellLess b a)
    by Less is = inl is
    by Equal is = inr (inl (same_cell a b is))
    by Greater is = inr (inr (less_from_greater a b is))
