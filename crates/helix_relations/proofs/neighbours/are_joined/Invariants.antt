use Rattle.std.proofs.Common.{◌≡◌, ℕ, ◌<◌, false, get_or}
use Rattle.helix_relations.specs.declared.signed.SignedRelation.{SignedRelation}
use Rattle.helix_relations.specs.Inner.Kept.{goes}
use Rattle.helix_relations.proofs.neighbours.are_joined.Given as goal

abbrev pub invariant-loop-signed : goal.invariant-loop-signed
invariant-loop-signed l = (k : ℕ) (d : SignedRelation) → k < l.signed-index
    → (goes (get_or l.relations k d).relation l.one l.other ≡ false)
    × (goes (get_or l.relations k d).relation l.other l.one ≡ false)
