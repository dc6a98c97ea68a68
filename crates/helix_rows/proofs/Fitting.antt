-- Rows whose cells fit slots.
use Rattle.std.proofs.Common.{◌≡◌, ℕ, Bool, true, false, List, refl, sym, subst}
use Rattle.std.proofs.lemmas.List.Elements.{All-set}
use Rattle.std.specs.List.{All}
use Rattle.helix_rows.specs.Inner.Levels.{ChangedIf}
use Rattle.helix_rows.specs.Regions.{cell_at}
use Rattle.helix_values.specs.Slot.{FitsSlot}
use Rattle.helix_values.specs.declared.cell.Cell.{Cell}

-- a cell is set
pub fit_changed : (yes : Bool) (row new : List Cell) (field : ℕ) → new ≡ ChangedIf yes row field (cell_at new field)
    → (yes ≡ true → FitsSlot (cell_at new field)) → All FitsSlot row → All FitsSlot new
fit_changed true row new field is fits fit =
    subst (All FitsSlot) (sym is) (All-set FitsSlot row field (cell_at new field) (fits refl) fit)
fit_changed false row new field is fits fit = subst (All FitsSlot) (sym is) fit
