use Rattle.std.proofs.Common.{◌↔◌, ℤ, take}
use Rattle.std.specs.List.{Contains}
use Rattle.helix_domains.specs.Inner.Line.{cell_on}
use Rattle.helix_domains.proofs.line.units_of.Given as goal

abbrev pub invariant-loop-cell : goal.invariant-loop-cell
invariant-loop-cell l = (units : ℤ) → Contains l.all units ↔ Contains (take l.cell-index l.cells) (cell_on l.line units)
