use Rattle.std.proofs.Common.{arith}
use Rattle.helix_search.specs.declared.tests.small.Gap.{Gap}
use Rattle.helix_search.proofs.SmallTrees.{small_nodes, small_fixed, small_mark}
use Rattle.helix_search.proofs.tests.finds.Goals as goal

pub least-requires-clause-nodes : goal.least-requires-clause-nodes
least-requires-clause-nodes c = small_nodes (λ (g : Gap). g.above) (λ (g : Gap). g.below) (λ (g : Gap). g.other)
    c.args.tree.now (c.are_nodes.ensures c.if-not-are_nodes.false)

pub least-requires-clause-fixed : goal.least-requires-clause-fixed
least-requires-clause-fixed c = small_fixed (λ (g : Gap). g.above) (λ (g : Gap). g.below) (λ (g : Gap). g.other)
    c.args.tree.now (c.are_nodes.ensures c.if-not-are_nodes.false)

pub least-requires-clause-mark : goal.least-requires-clause-mark
least-requires-clause-mark c = small_mark c.args.tree.now c.args.node c.args.mark (omega arith) c.requires
