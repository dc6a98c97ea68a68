-- Lists of cells.
use Rattle.std.specs.Prelude.{◌↔◌, ◌-◌, ◌<◌, List, length, slice_index_or}
use Rattle.std.specs.List.{Contains}
use Rattle.std.specs.List.Sorted.{IsSorted}
use Rattle.helix_values.specs.Order.{cell_cmp, CellLess}
use Rattle.helix_values.specs.declared.cell.Cell.{Cell}

-- no cell comes before the one that it follows
abbrev pub AreSorted : List Cell → Type 0
AreSorted cells = IsSorted cell_cmp cells

-- a cell comes after the last one of a list, if the list has one
abbrev pub IsAboveLast : List Cell → Cell → Type 0
IsAboveLast cells cell = (d : Cell) → 0 < length cells → CellLess (slice_index_or cells (length cells - 1) d) cell

-- two lists have the same cells
abbrev pub HaveSameCells : List Cell → List Cell → Type 0
HaveSameCells cells others = (v : Cell) → Contains others v ↔ Contains cells v

-- the cells of one list of which a fact holds
abbrev pub AreKept : (Cell → Type 0) → List Cell → List Cell → Type 0
AreKept Keeps cells kept = (v : Cell) → Contains kept v ↔ (Contains cells v × Keeps v)
