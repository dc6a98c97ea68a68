-- Rows compared cell by cell.
use Rattle.std.proofs.Common.{◌≡◌, ◌≢◌, ℕ, zero, suc, ◌+◌, ◌<◌, ◌≤◌, List, [], ◌∷◌, length, get_or, drop, refl, ap, sym, ◌∙◌, arith, drop-cons, add-one, Ordering}
use Rattle.std.specs.declared.cmp.Ordering.TheVariants.{Less, Equal, Greater}
use Rattle.std.proofs.lemmas.List.{drop_all}
use Rattle.std.specs.Ordering.{ordering_then}
use Rattle.helix_values.specs.declared.cell.Cell.{Cell}
use Rattle.helix_values.specs.Class.{AreComparable, AreComparableRows}
use Rattle.helix_values.specs.Order.{cell_cmp, row_cmp}

-- comparable rows have as many cells
pub comparable-length : (a b : List Cell) → AreComparableRows a b → length a ≡ length b
comparable-length [] [] both = refl
comparable-length [] (y ∷ b) both = absurd both
comparable-length (x ∷ a) [] both = absurd both
comparable-length (x ∷ a) (y ∷ b) both = omega (arith, comparable-length a b both.1)

-- and the cells at each index can be compared
pub comparable_at : (a b : List Cell) (i : ℕ) (x y : Cell) → AreComparableRows a b → i < length a
    → AreComparable (get_or a i x) (get_or b i y)
comparable_at [] b i x y both within = absurd (omega arith)
comparable_at (c ∷ a) [] i x y both within = absurd both
comparable_at (c ∷ a) (d ∷ b) zero x y both within = both.0
comparable_at (c ∷ a) (d ∷ b) (suc i) x y both within = comparable_at a b i x y both.1 (omega arith)

-- what is left of two rows is compared by its first cells, and then by what is left after them
pub row_cmp-drop : (a b : List Cell) (i : ℕ) (x y : Cell) → i < length a → i < length b
    → row_cmp (drop i a) (drop i b) ≡ ordering_then (cell_cmp (get_or a i x) (get_or b i y))
    (row_cmp (drop (i + 1) a) (drop (i + 1) b))
row_cmp-drop a b i x y in_a in_b = rw (add-one, drop-cons a i x, drop-cons b i y) refl

then_differs : (r s : Ordering) → r ≢ Equal → ordering_then r s ≡ r
then_differs Less s differ = refl
then_differs Equal s differ = absurd (differ refl)
then_differs Greater s differ = refl

-- the cells at an index of two rows, where all cells before them are equal
module _ (a b : List Cell) (i : ℕ) (d : Cell) (in_a : i < length a) (in_b : i < length b)
    (so_far : row_cmp (drop i a) (drop i b) ≡ row_cmp a b) where
  next : row_cmp a b ≡ ordering_then (cell_cmp (get_or a i d) (get_or b i d))
      (row_cmp (drop (i + 1) a) (drop (i + 1) b))
  next = sym so_far ∙ row_cmp-drop a b i d d in_a in_b

  -- the first cells that differ decide
  pub differ_here : (r : Ordering) → r ≡ cell_cmp (get_or a i d) (get_or b i d) → r ≢ Equal → r ≡ row_cmp a b
  differ_here r is differ =
      sym (next ∙ ap (λ o. ordering_then o (row_cmp (drop (i + 1) a) (drop (i + 1) b))) (sym is)
      ∙ then_differs r _ differ)

  -- equal cells leave the decision to what comes after
  pub equal_here : Equal ≡ cell_cmp (get_or a i d) (get_or b i d)
      → row_cmp (drop (i + 1) a) (drop (i + 1) b) ≡ row_cmp a b
  equal_here is = sym (next ∙ ap (λ o. ordering_then o (row_cmp (drop (i + 1) a) (drop (i + 1) b))) (sym is))

-- after the last cells nothing differs
pub none_differ : (a b : List Cell) (i : ℕ) → length a ≤ i → length b ≤ i → row_cmp (drop i a) (drop i b) ≡ row_cmp a b
    → Equal ≡ row_cmp a b
none_differ a b i past_a past_b so_far = (rw (drop_all i a past_a, drop_all i b past_b) refl) ∙ so_far
