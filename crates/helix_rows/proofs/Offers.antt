-- One more region beside those that gave the least cell so far.
use Rattle.std.proofs.Common.{◌≡◌, inl, inr, ℕ, Bool, true, false, List, [], ◌∷◌, ◌++◌, refl, sym, ◌∙◌, ap}
use Rattle.std.specs.declared.cmp.Ordering.{Ordering}
use Rattle.std.specs.declared.cmp.Ordering.TheVariants.{Equal, Greater}
use Rattle.helix_rows.proofs.CellOrder.{same_cell, less_from_greater}
use Rattle.helix_rows.specs.Inner.Answers.{Best, IsOffered}
use Rattle.helix_rows.specs.Regions.{IsLeastOf}
use Rattle.helix_values.specs.Marks.{IsAdmitted}
use Rattle.helix_values.specs.Order.{cell_cmp}
use Rattle.helix_values.specs.declared.cell.Cell.{Cell}
use Rattle.helix_values.specs.declared.mark.Mark.{Mark}
use Rattle.helix_words.specs.Questions.{IsLeastAnswer}

-- an answer is the least cell
pub least_from : (Has : Cell → Type 0) (mark : Mark) (yes : Bool) (old new : Cell) → yes ≡ true
    → IsLeastAnswer Has mark yes old new → IsLeastOf Has (IsAdmitted mark) new
least_from Has mark true old new is answer =
    record { has = answer.has; admitted = answer.admitted; least = answer.least }
least_from Has mark false old new is answer = cc is

module _ (Has : Cell → Type 0) (mark : Mark) (number : ℕ) (old : Best) (before answer : Cell)
    (given : IsLeastAnswer Has mark true before answer) where
  module _ (x y : Cell) (order : Ordering) (compared : order ≡ cell_cmp x y) (first : x ≡ answer)
      (second : y ≡ old.cell) where
    tied_as : order ≡ cell_cmp answer old.cell
    tied_as = compared ∙ (ap (λ a. cell_cmp a y) first ∙ ap (λ b. cell_cmp answer b) second)

    with_numbers : List ℕ → Best
    with_numbers ns = record { numbers = ns; cell = old.cell }

    pub offered_equal : order ≡ Equal → (numbers : List ℕ) → numbers ≡ old.numbers ++ number ∷ []
        → IsOffered Has (IsAdmitted mark) number old (record { numbers = numbers; cell = old.cell })
    unfolding with_numbers
    offered_equal tied numbers are = inr (
      answer,
      least_from Has mark true before answer refl given,
      inr (inl (
        same_cell answer old.cell (sym tied_as ∙ tied),
        ap with_numbers are,
      )),
    )

    pub offered_above : order ≡ Greater → ¬ (old.numbers ≡ []) → IsOffered Has (IsAdmitted mark) number old old
    offered_above greater some = inr (
      answer,
      least_from Has mark true before answer refl given,
      inr (inr (some, less_from_greater answer old.cell (sym tied_as ∙ greater), refl)),
    )
