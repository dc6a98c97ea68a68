use Rattle.helix_legacy.specs.Inner.Parts.{InConstraints}
use Rattle.helix_places.specs.PartLaws.{NoneInItems}
use Rattle.helix_legacy.proofs.breach.items_fault.Given as goal

abbrev pub invariant-loop-i : goal.invariant-loop-i
invariant-loop-i l = NoneInItems InConstraints l.items l.i
