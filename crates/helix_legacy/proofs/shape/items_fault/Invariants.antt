use Rattle.helix_legacy.specs.Broken.{BreaksRuleForm}
use Rattle.helix_places.specs.PartLaws.{NoneInItems}
use Rattle.helix_legacy.proofs.shape.items_fault.Given as goal

abbrev pub invariant-loop-i : goal.invariant-loop-i
invariant-loop-i l = NoneInItems BreaksRuleForm l.items l.i
