use Rattle.std.proofs.Common.{ℤ, ◌↔◌, sym, subst}
use Rattle.std.specs.List.{All, Contains}
use Rattle.helix_grids.specs.Inner.Parts.{IsSpared}
use Rattle.std.proofs.Common.{◌+◌, take}
use Rattle.helix_grids.proofs.AllTests.{spared_more, spared_all}
use Rattle.helix_grids.proofs.whole.others_of.Goals as goal

pub loop-test-preserved : goal.loop-test-preserved
loop-test-preserved c =
    subst (λ all. (v : ℤ) → (¬ Contains all v)
    ↔ All (λ test. IsSpared test v) (take (c.loop-test.test-index + 1) c.args.tests.now))
    (sym c.in_ok-extend_from_slice.ensures.items)
    (spared_more c.args.tests.now c.loop-test.test-index c.test-item.result c.loop-test-test.true c.test-item.is
    c.loop-test.all.items c.others.result.now
    c.loop-test.invariant c.others.ensures)

pub returns-clause-exact : goal.returns-clause-exact
returns-clause-exact c = spared_all c.args.tests.now _ _ c.loop-test.test-index c.loop-test-test.false
    c.loop-test.invariant c.in_ok-sort.ensures.permutation
