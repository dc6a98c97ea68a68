use Rattle.helix_places.specs.KeyLaws.{NoneBefore}
use Rattle.helix_references.specs.MemberLaws.{HasFault}
use Rattle.helix_references.specs.Rules.{IsFaulty as FaultyBy}
use Rattle.helix_references.proofs.rule.members_fault.Given as goal

abbrev pub invariant-loop-member : goal.invariant-loop-member
invariant-loop-member l = NoneBefore (HasFault (FaultyBy l.rule l.fields l.members l.form)) l.members l.member-index
