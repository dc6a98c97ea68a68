use Rattle.std.proofs.Common.{◌↔◌, ℤ, take}
use Rattle.std.specs.List.{All}
use Rattle.helix_grids.specs.Inner.Parts.{IsListed}
use Rattle.helix_grids.specs.Inner.Members.{AreInForm, HasMember}
use Rattle.helix_grids.proofs.whole.among_all.Given as goal

abbrev pub invariant-loop-test : goal.invariant-loop-test
invariant-loop-test g l = record {
  form : AreInForm (g.S.Scale.ladder l.scale) l.left;
  exact : (v : ℤ) → HasMember (g.S.Scale.ladder l.scale) l.left v
      ↔ (HasMember (g.S.Scale.ladder l.scale) l.fn.all v × All (λ test. IsListed test v) (take l.test-index l.tests));
}
