use Rattle.std.proofs.Common.{take}
use Rattle.helix_operands.specs.Values.{AreValues}
use Rattle.helix_operands.proofs.members.values_of.Given as goal

abbrev pub invariant-loop-item : goal.invariant-loop-item
invariant-loop-item l = AreValues l.kind (take l.item-index l.items) l.values
