use Rattle.std.proofs.Common.{take}
use Rattle.helix_domains.specs.Form.{AreAscending}
use Rattle.helix_domains.specs.Inner.Listed.{HaveSameCells}
use Rattle.helix_domains.proofs.listed.distinct.Given as goal

abbrev pub invariant-loop-cell : goal.invariant-loop-cell
invariant-loop-cell l = record {
  ascending : AreAscending l.all;
  same : HaveSameCells (take l.cell-index l.cells) l.all;
}
