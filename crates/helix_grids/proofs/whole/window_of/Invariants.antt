use Rattle.std.proofs.Common.{◌↔◌, ℤ, take}
use Rattle.helix_grids.specs.Inner.Parts.{IsBounded}
use Rattle.helix_grids.specs.Inner.Window.{IsInWindow, IsWindowOf}
use Rattle.helix_grids.proofs.whole.window_of.Given as goal

abbrev pub invariant-loop-test : goal.invariant-loop-test
invariant-loop-test g l = record {
  kept : IsWindowOf (g.S.Scale.ladder l.scale) l.window;
  exact : (v : ℤ) → IsInWindow (g.S.Scale.ladder l.scale) l.window v
      ↔ IsBounded (g.S.Scale.ladder l.scale) l.level (take l.test-index l.tests) v;
}
