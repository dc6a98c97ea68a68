use Rattle.helix_domains.proofs.LengthLaws.{of_length, not_of_length}
use Rattle.helix_domains.proofs.lengths.with_length.Goals as goal

pub returns-then-sign-clause-exact : goal.returns-then-sign-clause-exact
returns-then-sign-clause-exact c = of_length c.args.lengths c.requires c.args.sign c.args.count
    c.saturating_add.result c.saturating_add.ensures c.if-sign.true c.from.result c.below.result c.from.ensures.exact
    c.below.ensures.exact

pub returns-else-sign-clause-exact : goal.returns-else-sign-clause-exact
returns-else-sign-clause-exact c = not_of_length c.args.lengths c.args.sign c.args.count c.if-sign.false
    c.without.result c.without.ensures.exact
