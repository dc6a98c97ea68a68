-- The cells that a mark admits.
use Rattle.helix_values.specs.declared.cell.Cell.{Cell}
use Rattle.helix_values.specs.declared.mark.Mark.{Mark}
use Rattle.helix_values.specs.declared.mark.Mark.TheVariants.{Start, At, After}
use Rattle.helix_values.specs.Order.{CellLess}
use Rattle.helix_values.specs.View.{cell_of}

-- all cells, those that aren't below a cell, or those above it
abbrev pub IsAdmitted : Mark → Cell → Type 0
IsAdmitted Start value = Unit {0}
IsAdmitted (At bound) value = ¬ (CellLess value (cell_of bound))
IsAdmitted (After bound) value = CellLess (cell_of bound) value
