use Rattle.helix_domains.proofs.GridTests.{equal_passes, set_passes, below_passes, at_most_passes}
use Rattle.helix_domains.proofs.bounds.grid_test.Goals as goal

pub returns-in-EqualTo-clause-exact : goal.returns-in-EqualTo-clause-exact
returns-in-EqualTo-clause-exact c = equal_passes c.args.line c.args.signed.now c.in-EqualTo.operand
    c.from_ref.result.now c.members_test.result c.in-EqualTo.is c.from_ref.ensures.value c.members_test.ensures.exact

pub returns-in-InSet-clause-exact : goal.returns-in-InSet-clause-exact
returns-in-InSet-clause-exact c = set_passes c.args.line c.args.signed.now c.in-InSet.members c.as_slice.result.now
    c.members_test-in-InSet.result c.in-InSet.is c.as_slice.ensures c.members_test-in-InSet.ensures.exact

pub returns-in-Below-clause-exact : goal.returns-in-Below-clause-exact
returns-in-Below-clause-exact c = below_passes c.args.line c.args.signed.now c.in-Below.bound
    c.bound_test-in-Below.result c.in-Below.is c.bound_test-in-Below.ensures.exact

pub returns-in-AtMost-clause-exact : goal.returns-in-AtMost-clause-exact
returns-in-AtMost-clause-exact c = at_most_passes c.args.line c.args.signed.now c.in-AtMost.bound
    c.bound_test-in-AtMost.result c.in-AtMost.is c.bound_test-in-AtMost.ensures.exact
