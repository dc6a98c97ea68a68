use Rattle.std.proofs.Common.{ℕ, ◌<◌, ◌≢◌, slice_index_or}
use Rattle.helix_search.specs.declared.node.Neighbour.{Neighbour}
use Rattle.helix_search.specs.declared.tests.small.Gap.{Gap}
use Rattle.helix_search.proofs.tests.is_new.Given as goal

abbrev pub invariant-loop-j : goal.invariant-loop-j
invariant-loop-j l = (k : ℕ) (d : Neighbour Gap) → k < l.j
    → (slice_index_or l.neighbours k d).node ≢ (slice_index_or l.neighbours l.i d).node
