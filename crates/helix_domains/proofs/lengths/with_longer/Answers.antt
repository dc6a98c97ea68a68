use Rattle.helix_domains.proofs.LengthLaws.{longer_true, longer_false}
use Rattle.helix_domains.proofs.lengths.with_longer.Goals as goal

pub returns-then-sign-clause-exact : goal.returns-then-sign-clause-exact
returns-then-sign-clause-exact c = longer_true c.args.lengths c.requires c.args.sign c.args.count
    c.saturating_add.result c.saturating_add.ensures c.if-sign.true c.from.result c.from.ensures.exact

pub returns-else-sign-clause-exact : goal.returns-else-sign-clause-exact
returns-else-sign-clause-exact c = longer_false c.args.lengths c.requires c.args.sign c.args.count
    c.saturating_add-else-sign.result c.saturating_add-else-sign.ensures c.if-sign.false c.below.result
    c.below.ensures.exact
