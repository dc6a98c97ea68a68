use Rattle.helix_operands.proofs.FirstMember.{NoneHolds}
use Rattle.helix_operands.specs.Rules.{IsFaultyMember}
use Rattle.helix_operands.proofs.members.first_faulty.Given as goal

abbrev pub invariant-loop-i : goal.invariant-loop-i
invariant-loop-i l = NoneHolds (IsFaultyMember l.rule l.kind) l.members l.i
