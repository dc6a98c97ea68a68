use Rattle.helix_domains.proofs.PositiveSets.{equal_set, member_set}
use Rattle.helix_domains.proofs.sets.members_of.Goals as goal

pub returns-in-EqualTo : goal.returns-in-EqualTo
returns-in-EqualTo c = equal_set c.args.signed.now c.in-EqualTo.operand c.from_ref.result.now c.if-not-signed.false
    c.in-EqualTo.is c.from_ref.ensures.value

pub returns-in-InSet : goal.returns-in-InSet
returns-in-InSet c = member_set c.args.signed.now c.in-InSet.members c.as_slice.result.now c.if-not-signed.false
    c.in-InSet.is c.as_slice.ensures
