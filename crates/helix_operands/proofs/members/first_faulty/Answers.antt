use Rattle.helix_operands.proofs.FirstMember.{next_sound, no_more}
use Rattle.helix_operands.specs.Rules.{IsFaultyMember}
use Rattle.helix_operands.proofs.members.first_faulty.Goals as goal

pub loop-i-preserved : goal.loop-i-preserved
loop-i-preserved c = next_sound (IsFaultyMember c.args.rule c.args.kind) c.args.members.now c.loop-i.i
    c.index-members-i.result c.loop-i-test.true c.index-members-i.is c.in_ok-is_faulty_member.field-0
    c.in_ok-is_faulty_member.ensures c.loop-i.invariant c.if-branch.false

pub returns : goal.returns
returns c = no_more (IsFaultyMember c.args.rule c.args.kind) c.args.members.now c.loop-i.i c.loop-i-test.false
    c.loop-i.invariant
