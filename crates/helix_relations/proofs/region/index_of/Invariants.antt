use Rattle.helix_relations.specs.Inner.Parts.{IsNotBefore}
use Rattle.helix_relations.proofs.region.index_of.Given as goal

abbrev pub invariant-loop-index : goal.invariant-loop-index
invariant-loop-index l = IsNotBefore l.parts l.number l.index
