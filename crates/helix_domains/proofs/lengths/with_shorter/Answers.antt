use Rattle.helix_domains.proofs.LengthLaws.{shorter_true, shorter_false}
use Rattle.helix_domains.proofs.lengths.with_shorter.Goals as goal

pub returns-then-sign-clause-exact : goal.returns-then-sign-clause-exact
returns-then-sign-clause-exact c = shorter_true c.args.lengths c.args.sign c.args.count c.if-sign.true c.below.result
    c.below.ensures.exact

pub returns-else-sign-clause-exact : goal.returns-else-sign-clause-exact
returns-else-sign-clause-exact c = shorter_false c.args.lengths c.args.sign c.args.count c.if-sign.false c.from.result
    c.from.ensures.exact
