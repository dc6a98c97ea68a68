use Rattle.std.proofs.Common.{◌≡◌}
use Rattle.helix_grids.proofs.tests.grid.Given as goal

abbrev pub invariant-loop-test : goal.invariant-loop-test
invariant-loop-test g l = l.levels ≡ (g.S.Scale.ladder l.grid.scale).levels
