use Rattle.helix_links.proofs.Told.{IsToldOf}
use Rattle.helix_links.proofs.equality_link.EqualityLink.of.Given as goal

abbrev pub invariant-loop-sided : goal.invariant-loop-sided
invariant-loop-sided l = IsToldOf l.texts l.equal l.different l.relations l.sided-index
