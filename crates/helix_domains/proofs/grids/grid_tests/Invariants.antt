use Rattle.std.proofs.Common.{◌↔◌, ℤ, take}
use Rattle.std.specs.List.{All}
use Rattle.helix_grids.specs.Tests.{Passes, NamesLevelBelow}
use Rattle.helix_domains.specs.Domain.{PassesAtom}
use Rattle.helix_domains.specs.Inner.Line.{cell_on, ladder_on}
use Rattle.helix_domains.proofs.grids.grid_tests.Given as goal

abbrev pub invariant-loop-signed : goal.invariant-loop-signed
invariant-loop-signed l = record {
  exact : (units : ℤ) → All (λ test. Passes (ladder_on l.line) test units) l.tests.items
      ↔ All (λ signed. PassesAtom signed (cell_on l.line units)) (take l.signed-index l.atoms);
  levels : All (NamesLevelBelow (ladder_on l.line).levels) l.tests.items;
}
