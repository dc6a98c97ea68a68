-- Cells of one class can be compared.
use Rattle.std.proofs.Common.{◌≡◌, ℕ, suc, ◌<◌, List, [], ◌∷◌, length, Some, refl, sym, ◌∙◌, ap, arith}
use Rattle.helix_rows.specs.Regions.{cell_at, class_at, IsCellFor, IsPieceOf}
use Rattle.helix_values.specs.Class.{Class, AreComparable, AreComparableRows, IsNullOr}
use Rattle.helix_values.specs.Counts.{IsMarkBound}
use Rattle.helix_values.specs.declared.cell.Cell.{Cell}
use Rattle.helix_values.specs.declared.cell.Cell.TheVariants as cell

in_class : (class : Class) (c : Cell) → IsMarkBound class c → IsNullOr class c
in_class class cell.Null is = is
in_class class (cell.Bool truth) is = is
in_class class (cell.Number units) is = is
in_class class (cell.Moment at) is = is
in_class class (cell.Text codes) is = ap Some (sym is.0)

comparable_in_class : (class : Class) (a b : Cell) → IsNullOr class a → IsNullOr class b → AreComparable a b
comparable_in_class class cell.Null b of_a of_b = refl
comparable_in_class class (cell.Bool a) cell.Null of_a of_b = refl
comparable_in_class class (cell.Number a) cell.Null of_a of_b = refl
comparable_in_class class (cell.Moment a) cell.Null of_a of_b = refl
comparable_in_class class (cell.Text a) cell.Null of_a of_b = refl
comparable_in_class class (cell.Bool a) (cell.Bool b) of_a of_b = refl
comparable_in_class class (cell.Number a) (cell.Number b) of_a of_b = refl
comparable_in_class class (cell.Moment a) (cell.Moment b) of_a of_b = refl
comparable_in_class class (cell.Text a) (cell.Text b) of_a of_b = refl
comparable_in_class class a b of_a of_b = cc

comparable_lists : (class_of : ℕ → Class) (a b : List Cell) → length a ≡ length b
    → ((i : ℕ) → i < length a → IsCellFor (class_of i) (cell_at a i))
    → ((i : ℕ) → i < length b → IsCellFor (class_of i) (cell_at b i)) → AreComparableRows a b
comparable_lists class_of [] [] long one other = tt
comparable_lists class_of [] (d ∷ b) long one other = absurd (omega (arith, long))
comparable_lists class_of (c ∷ a) [] long one other = absurd (omega (arith, long))
comparable_lists class_of (c ∷ a) (d ∷ b) long one other = (
  comparable_in_class (class_of 0) c d (in_class (class_of 0) c (one 0 (omega arith)).0)
      (in_class (class_of 0) d (other 0 (omega arith)).0),
  comparable_lists (λ i. class_of (suc i)) a b (omega (arith, long)) (λ i less. one (suc i) (omega (arith, less)))
      (λ i less. other (suc i) (omega (arith, less))),
)

-- rows of the same fields with the same classes
pub comparable_rows : (fields : List ℕ) (classes : List Class) (a b : List Cell) → IsPieceOf fields classes a
    → IsPieceOf fields classes b → AreComparableRows a b
comparable_rows fields classes a b one other =
    comparable_lists (class_at classes) a b (one.count ∙ sym other.count)
    (λ i less. one.each i (omega (arith, less, one.count))) (λ i less. other.each i (omega (arith, less, other.count)))
