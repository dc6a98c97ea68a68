-- Questions for the least cell of a set that a mark admits, and their answers.
use Rattle.std.specs.Prelude.{◌≡◌, Bool, true, false}
use Rattle.helix_values.specs.declared.cell.Cell.{Cell}
use Rattle.helix_values.specs.declared.mark.Mark.{Mark}
use Rattle.helix_values.specs.Order.{CellLess}
use Rattle.helix_values.specs.Marks.{IsAdmitted}

-- v is the least cell of a set that a mark admits
pub record IsLeastAdmitted (Has : Cell → Type 0) (mark : Mark) (v : Cell) : Type 0 where
  pub has : Has v
  pub admitted : IsAdmitted mark v
  pub least : (other : Cell) → Has other → IsAdmitted mark other → ¬ (CellLess other v)

-- a slot holds the least cell, or there is none and the slot is as it was
abbrev pub IsLeastAnswer : (Cell → Type 0) → Mark → Bool → Cell → Cell → Type 0
IsLeastAnswer Has mark true old new = IsLeastAdmitted Has mark new
IsLeastAnswer Has mark false old new = (new ≡ old) × ((other : Cell) → Has other → ¬ (IsAdmitted mark other))
