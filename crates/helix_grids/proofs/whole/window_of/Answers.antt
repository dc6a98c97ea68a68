use Rattle.helix_grids.proofs.AllTests.{bounded_more, bounded_all}
use Rattle.helix_grids.proofs.whole.window_of.Goals as goal

pub loop-test-preserved : goal.loop-test-preserved
loop-test-preserved g c = record {
  kept = c.with_test-window.ensures.kept;
  exact =
      bounded_more c.args.tests.now c.loop-test.test-index c.test-item.result c.loop-test-test.true c.test-item.is _
      c.args.level _ _ c.loop-test.invariant.exact
      c.with_test-window.ensures.exact;
}

pub returns-clause-exact : goal.returns-clause-exact
returns-clause-exact g c = bounded_all _ c.args.level c.args.tests.now _ c.loop-test.test-index c.loop-test-test.false
    c.loop-test.invariant.exact
