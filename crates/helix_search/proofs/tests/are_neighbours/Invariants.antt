use Rattle.std.specs.List.{AllWithin}
use Rattle.helix_search.specs.declared.tests.small.Gap.{Gap}
use Rattle.helix_search.specs.Inner.Small.{IsSmallNeighbour}
use Rattle.helix_search.proofs.tests.are_neighbours.Given as goal

abbrev pub invariant-loop-neighbour : goal.invariant-loop-neighbour
invariant-loop-neighbour l = AllWithin (IsSmallNeighbour (λ (g : Gap). g.above) (λ (g : Gap). g.below) (λ (g :
    Gap). g.other)
    l.tree) l.neighbours 0 l.neighbour-index
