use Rattle.std.proofs.Common.{◌∙◌, ◌∷◌, ap}
use Rattle.helix_places.specs.declared.place.Step.TheVariants as step
use Rattle.helix_references.proofs.FaultyMembers.{next_member, this_member, no_more_members}
use Rattle.helix_references.proofs.rule.members_fault.Goals as goal

pub returns-then-is_faulty : goal.returns-then-is_faulty
returns-then-is_faulty c = this_member c.args.rule c.args.fields.now c.args.members.now c.form_of-form.result
    c.form_of-form.ensures c.loop-member.member-index c.member-item.result c.loop-member-test.true c.member-item.is
    c.loop-member.invariant c.codes.result.now c.codes.ensures.value c.is_faulty.result c.is_faulty.ensures
    c.if-is_faulty.true c.in_ok-copy.field-0 c.step_out.new.self c.in_ok-copy.ensures
    (c.in_ok-step_out.ensures.ok ∙ ap (λ p. step.Member c.in_ok-copy.field-0 ∷ p) c.top-place.ensures)

pub loop-member-preserved : goal.loop-member-preserved
loop-member-preserved c = next_member c.args.rule c.args.fields.now c.args.members.now c.form_of-form.result
    c.form_of-form.ensures c.loop-member.member-index c.member-item.result c.loop-member-test.true c.member-item.is
    c.loop-member.invariant c.codes.result.now c.codes.ensures.value c.is_faulty.result c.is_faulty.ensures
    c.if-is_faulty.false

pub returns : goal.returns
returns c = no_more_members c.args.rule c.args.fields.now c.args.members.now c.form_of-form.result
    c.form_of-form.ensures
    c.loop-member.member-index c.loop-member-test.false c.loop-member.invariant
