use Rattle.std.proofs.Common.{arith}
use Rattle.helix_links.proofs.Told.{told_plus, told_minus, told_all}
use Rattle.helix_links.proofs.equality_link.EqualityLink.of.Goals as goal
use Rattle.helix_links.proofs.equality_link.EqualityLink.of.Goals.{then-sided, else-sided}

pub loop-sided-preserved : goal.loop-sided-preserved
loop-sided-preserved c = elim c.if-sided.branch [
  | then-sided w ↦ told_plus c.args.texts c.loop-sided.equal c.loop-sided.different c.args.relations.now
      c.loop-sided.sided-index _ c.loop-sided-test.true c.loop-sided.invariant c.if-sided.equal c.if-sided.different
      w.equal-is w.different-is w.if-sided.true
  | else-sided w ↦ told_minus c.args.texts c.loop-sided.equal c.loop-sided.different c.args.relations.now
      c.loop-sided.sided-index _ c.loop-sided-test.true c.loop-sided.invariant c.if-sided.equal c.if-sided.different
      w.equal-is w.different-is w.if-sided.false
]

pub returns-clause-met : goal.returns-clause-met
returns-clause-met c = told_all c.args.texts c.loop-sided.equal c.loop-sided.different c.args.relations.now
    c.loop-sided.sided-index (omega arith) c.loop-sided.invariant
