-- The least numbers and moments above others.
use Rattle.std.proofs.Common.{◌≡◌, ℤ, ◌≤ℤ◌, ◌<ℤ◌, sym, subst, arith}
use Rattle.std.proofs.lemmas.Int.{ints}
use Rattle.helix_ladders.specs.Scale.{IsLeast}
use Rattle.helix_values.specs.Order.{CellLess}
use Rattle.helix_values.specs.declared.cell.Cell.{Cell}
use Rattle.helix_domains.specs.Near.{IsLeastAbove}
use Rattle.helix_domains.specs.declared.line.Line.{Line}
use Rattle.helix_domains.specs.Inner.Line.{cell_on, IsOnLine}
use Rattle.helix_domains.proofs.OnLines.{less_on, on_less, from_line, to_line, line_to}

apart : (a b : ℤ) → a ≤ℤ b → b <ℤ a → ⊥
apart a b low less = omega (arith, ints)

-- the number of a cell that is on the line is in the set
pub member_at : (line : Line) (Has : ℤ → Type 0) (v : Cell) (u : ℤ) → v ≡ cell_on line u → IsOnLine line Has v → Has u
member_at line Has v u is on = line_to line Has u (subst (IsOnLine line Has) is on)

module _ (line : Line) (Has : ℤ → Type 0) (u : ℤ) (old : Cell) (is : old ≡ cell_on line u) where
  above_old : (w : ℤ) (other : Cell) → other ≡ cell_on line w → CellLess old other → u <ℤ w
  above_old w other at above = less_on line u w (subst (λ c. CellLess c (cell_on line w)) is
      (subst (CellLess old) at above))

  pub next_on : (v : ℤ) → IsLeast (λ w. Has w × (u <ℤ w)) v → IsLeastAbove (IsOnLine line Has) old (cell_on line v)
  next_on v least = record {
    has = to_line line Has v least.has.0;
    above = subst (λ c. CellLess c (cell_on line v)) (sym is) (on_less line u v least.has.1);
    least = λ other has above less.
        let on = from_line line Has other has in
        apart v on.0 (least.least on.0 (on.2, above_old on.0 other on.1 above))
        (less_on line on.0 v (subst (λ c. CellLess c (cell_on line v)) on.1 less));
  }

  pub none_next : ((w : ℤ) → ¬ (Has w × (u <ℤ w))) → (other : Cell) → IsOnLine line Has other → ¬ CellLess old other
  none_next none other has above =
      let on = from_line line Has other has in
      none on.0 (on.2, above_old on.0 other on.1 above)
