use Rattle.helix_references.proofs.FaultyMembers.{object_says, other_says}
use Rattle.helix_references.proofs.rule.reference_fault.Goals as goal

pub returns-in-Some : goal.returns-in-Some
returns-in-Some c = object_says c.args.rule c.args.fields.now c.args.constraint.now c.in-Some.members.now
    c.members_fault.result c.in-Some.ensures.some c.members_fault.ensures

pub returns-in-None : goal.returns-in-None
returns-in-None c = other_says c.args.rule c.args.fields.now c.args.constraint.now c.in-None.ensures.none
