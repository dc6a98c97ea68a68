use Rattle.std.specs.List.{AllWithin}
use Rattle.helix_search.specs.declared.tests.small.Gap.{Gap}
use Rattle.helix_search.specs.Inner.Small.{IsSmallNode}
use Rattle.helix_search.proofs.tests.are_nodes.Given as goal

abbrev pub invariant-loop-node : goal.invariant-loop-node
invariant-loop-node l = AllWithin (IsSmallNode (λ (g : Gap). g.above) (λ (g : Gap). g.below) (λ (g : Gap). g.other)
    l.tree) l.nodes 0 l.node-index
