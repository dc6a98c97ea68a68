use Rattle.helix_places.specs.KeyLaws.{NoneBefore}
use Rattle.helix_fields.specs.Inner.Objects.{may_have}
use Rattle.helix_fields.proofs.FaultyMembers.{IsFault}
use Rattle.helix_fields.proofs.faulty.in_members.Given as goal

abbrev pub invariant-loop-member : goal.invariant-loop-member
invariant-loop-member l = NoneBefore (IsFault (may_have l.object)) l.members l.member-index
