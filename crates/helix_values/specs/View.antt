-- The cell that a borrowed cell shows.
use Rattle.helix_values.specs.declared.cell.Cell.{Cell}
use Rattle.helix_values.specs.declared.cell.Cell.TheVariants as cell
use Rattle.helix_values.specs.declared.cell.CellRef.{CellRef}
use Rattle.helix_values.specs.declared.cell.CellRef.TheVariants as borrowed

-- the same null or value, with the code points that a borrowed text points to
abbrev pub cell_of : CellRef → Cell
cell_of borrowed.Null = cell.Null
cell_of (borrowed.Bool truth) = cell.Bool truth
cell_of (borrowed.Number units) = cell.Number units
cell_of (borrowed.Moment millis) = cell.Moment millis
cell_of (borrowed.Text codes) = cell.Text codes.now
