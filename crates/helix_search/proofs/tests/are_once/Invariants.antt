use Rattle.helix_search.specs.Inner.Small.{AllWithinNew}
use Rattle.helix_search.proofs.tests.are_once.Given as goal

abbrev pub invariant-loop-i : goal.invariant-loop-i
invariant-loop-i l = AllWithinNew l.neighbours l.i
