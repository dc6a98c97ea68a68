-- How far the cells of a row go on.
use Rattle.std.proofs.Common.{◌≡◌, ℕ, ◌<◌, false, List, length, sym, subst, ⊎_elim, arith}
use Rattle.helix_rows.proofs.CellOrder.{not_itself, not_back, either}
use Rattle.helix_rows.proofs.Climbing.{member_goes}
use Rattle.helix_rows.proofs.Rising.{last_at}
use Rattle.helix_rows.specs.Inner.Answers.{IsLastFrom, IsRaised}
use Rattle.helix_rows.specs.Inner.Levels.{GoesOn, IsLayout, Agree}
use Rattle.helix_rows.specs.Parts.{IsInParts}
use Rattle.helix_rows.specs.Regions.{cell_at, IsAskedFor, IsLeastOf, IsLeastStep}
use Rattle.helix_rows.specs.declared.layout.Layout.{Layout}
use Rattle.helix_rows.specs.declared.region.Question.TheVariants.{At}
use Rattle.helix_values.specs.Order.{CellLess}
use Rattle.helix_values.specs.declared.cell.Cell.{Cell}

module _ (H : ℕ → List Cell → Type 0) (layout : Layout) (fields : ℕ) (is : IsLayout layout fields) (field : ℕ)
    (within : field < fields) (row : List Cell) (long : length row ≡ fields) where
  -- no cell goes on that isn't below its own
  pub stuck_last : (new : Cell) → IsLeastStep (GoesOn H layout field row) At false (cell_at row field) new
      → IsLastFrom (IsInParts H fields layout.parts) row field
  stuck_last new answer =
      last_at (IsInParts H fields layout.parts) fields (λ other member. member.count) row field long
      (λ other member agree above. answer.1 (cell_at other field)
      (member_goes H layout fields is field within row other member agree)
      (λ below. not_back (cell_at row field) (cell_at other field) above below))
      (λ other member agree same. answer.1 (cell_at other field)
      (member_goes H layout fields is field within row other member agree)
      (λ below. not_itself (cell_at row field) (subst (λ c. CellLess c (cell_at row field)) same below)))

  -- the least one is above its own
  pub followed_raised : (new : List Cell) → length new ≡ fields → Agree field new row
      → IsLeastOf (GoesOn H layout field row) (IsAskedFor At (cell_at row field)) (cell_at new field)
      → ¬ (cell_at new field ≡ cell_at row field) → IsRaised (IsInParts H fields layout.parts) row new field
  followed_raised new long_new agree answer differs = record {
    change = record {
      within = omega (arith, within, long_new);
      same = λ f less. sym (agree f less);
      above = own_above;
    };
    last = λ other member same above.
        let own : cell_at other field ≡ cell_at row field = same field (omega arith) in
        answer.least (cell_at other field)
        (member_goes H layout fields is field within row other member (λ f less. same f (omega (arith, less))))
        (λ below. not_itself (cell_at row field) (subst (λ c. CellLess c (cell_at row field)) own below))
        (subst (λ c. CellLess c (cell_at new field)) (sym own) own_above);
    least = λ other member same above. answer.least (cell_at other field)
        (member_goes H layout fields is field within row other member same)
        (λ below. not_back (cell_at row field) (cell_at other field) above below);
  }
    where
      own_above : CellLess (cell_at row field) (cell_at new field)
      own_above = ⊎_elim (λ less. less)
          (λ rest. ⊎_elim (λ e. absurd (differs (sym e))) (λ below. absurd (answer.admitted below)) rest)
          (either (cell_at row field) (cell_at new field))
