-- A row of which a slot is borrowed for writing.
use Rattle.std.specs.Prelude.{ℕ, List, slice_set}
use Rattle.std.specs.Borrow.{Lends, MutBor, Fml}
use Rattle.helix_values.specs.declared.cell.Cell.{Cell}
use Rattle.helix_values.specs.contracts.row_buf.RowBuf.{the_row}
use Rattle.helix_values.specs.contracts.slot.Slot.{the_row as slot_row}

-- the row ends with cell i as it is left in the slot, and its other cells as they were
abbrev pub BorrowsSlot : MutBor (List Cell) → ℕ → MutBor Cell → Fml
BorrowsSlot row i slot = Lends the_row slot_row row slot (slice_set row.now i)
