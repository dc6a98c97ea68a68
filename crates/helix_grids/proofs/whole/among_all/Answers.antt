use Rattle.helix_grids.proofs.AllTests.{listed_more, listed_all}
use Rattle.helix_grids.proofs.whole.among_all.Goals as goal

pub loop-test-preserved : goal.loop-test-preserved
loop-test-preserved g c = record {
  form = c.in_ok-left.ensures.form;
  exact =
      listed_more c.args.tests.now c.loop-test.test-index c.test-item.result c.loop-test-test.true c.test-item.is _
      c.args.all _ _ c.loop-test.invariant.exact
      c.in_ok-left.ensures.exact;
}

pub returns-clause-exact : goal.returns-clause-exact
returns-clause-exact g c = listed_all _ c.args.tests.now c.args.all _ c.loop-test.test-index c.loop-test-test.false
    c.loop-test.invariant.exact
