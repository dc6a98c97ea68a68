-- Rows of numbers, as the tests seek them.
use Rattle.std.proofs.Common.{◌≡◌, ℕ, zero, suc, ◌<◌, List, [], ◌∷◌, slice_index_or, refl, sym, subst, arith}
use Rattle.helix_rows.specs.Inner.Listing.{AreNumbers, AreOfTwo}
use Rattle.helix_rows.specs.Parts.{IsRowFor}
use Rattle.helix_rows.specs.Regions.{cell_at, class_at, number_at, IsCellFor}
use Rattle.helix_rows.specs.declared.part.Part.{Part}
use Rattle.helix_values.specs.Class.{numbers}
use Rattle.helix_values.specs.declared.cell.Cell.{Cell}

class_two : (i : ℕ) → i < 2 → class_at (numbers ∷ numbers ∷ []) i ≡ numbers
class_two zero less = refl
class_two (suc zero) less = refl
class_two (suc (suc i)) less = absurd (omega (arith, less))

-- they are cells for the classes of the regions
pub numbers_sought : {R : Type 0} (regions : List R) (parts : List Part) (row : List Cell) → AreOfTwo parts
    → AreNumbers row → IsRowFor (λ r. numbers ∷ numbers ∷ []) regions parts row
numbers_sought regions parts row twos are k part inside n number listed = record {
  are = λ d i less. subst (λ class. IsCellFor class (cell_at row (number_at (slice_index_or parts k part).fields i)))
      (sym (class_two i (omega (arith, less, twos k part inside))))
      (are (number_at (slice_index_or parts k part).fields i));
}
