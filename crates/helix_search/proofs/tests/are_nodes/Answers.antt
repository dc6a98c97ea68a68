use Rattle.std.proofs.Common.{arith}
use Rattle.helix_search.specs.declared.tests.small.Gap.{Gap}
use Rattle.helix_search.specs.Inner.Small.{IsSmallNode}
use Rattle.helix_search.proofs.Visiting.{within_more}
use Rattle.helix_search.proofs.tests.are_nodes.Goals as goal

pub loop-node-preserved : goal.loop-node-preserved
loop-node-preserved c =
    within_more (IsSmallNode (λ (g : Gap). g.above) (λ (g : Gap). g.below) (λ (g : Gap). g.other)
    c.args.tree.now) c.args.nodes.now c.loop-node.node-index
    c.node-item.result c.loop-node-test.true c.node-item.is
    (c.is_node.ensures c.if-not-is_node.false) c.loop-node.invariant

pub returns : goal.returns
returns c = λ _ k d within. c.loop-node.invariant k d (omega arith) (omega (arith, within))
