-- Values that are on a grid of their ladder.
use Rattle.std.specs.Prelude.{ℕ}
use Rattle.helix_ladders.specs.Grids.{IsOnNumberGrid, IsOnMomentGrid}
use Rattle.helix_values.specs.declared.cell.Cell.{Cell}
use Rattle.helix_values.specs.declared.cell.Cell.TheVariants as cell

-- a number or a moment is on the grid of this level of its ladder
abbrev pub IsOnGrid : ℕ → Cell → Type 0
IsOnGrid level (cell.Number units) = IsOnNumberGrid level units
IsOnGrid level (cell.Moment at) = IsOnMomentGrid level at
IsOnGrid level other = ⊥
