use Rattle.helix_domains.proofs.GridTests.{members_pass, others_pass}
use Rattle.helix_domains.proofs.bounds.members_test.Goals as goal

pub returns-then-sign-clause-exact : goal.returns-then-sign-clause-exact
returns-then-sign-clause-exact c = members_pass c.args.line c.args.sign c.args.members.now c.in_ok-numbers.numbers
    c.if-sign.true c.in_ok-numbers.ensures

pub returns-else-sign-clause-exact : goal.returns-else-sign-clause-exact
returns-else-sign-clause-exact c = others_pass c.args.line c.args.sign c.args.members.now c.in_ok-numbers.numbers
    c.if-sign.false c.in_ok-numbers.ensures
