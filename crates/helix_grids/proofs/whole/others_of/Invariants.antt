use Rattle.std.proofs.Common.{◌↔◌, ℤ, take}
use Rattle.std.specs.List.{All, Contains}
use Rattle.helix_grids.specs.Inner.Parts.{IsSpared}
use Rattle.helix_grids.proofs.whole.others_of.Given as goal

abbrev pub invariant-loop-test : goal.invariant-loop-test
invariant-loop-test l = (v : ℤ) → (¬ Contains l.all.items v) ↔ All (λ test. IsSpared test v) (take l.test-index l.tests)
