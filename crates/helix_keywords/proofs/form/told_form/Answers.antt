use Rattle.std.proofs.Common.{◌∙◌, ap}
use Rattle.helix_places.specs.KeyLaws.{none_more}
use Rattle.helix_keywords.specs.Inner.Telling.{form_told}
use Rattle.helix_keywords.proofs.Telling.{Tells, told_by, tells_not, none_told}
use Rattle.helix_keywords.proofs.form.told_form.Goals as goal

pub returns-in-Some-clause-some : goal.returns-in-Some-clause-some
returns-in-Some-clause-some c = told_by c.args.members.now c.loop-member.member-index c.member-item.result
    c.in-Some.form c.form_told.result c.loop-member-test.true c.member-item.is
    (c.form_told.ensures ∙ ap form_told c.codes.ensures.value) c.in-Some.is

pub loop-member-preserved : goal.loop-member-preserved
loop-member-preserved c = none_more Tells c.args.members.now c.loop-member.member-index c.member-item.result
    c.loop-member-test.true c.member-item.is c.loop-member.invariant
    (tells_not c.member-item.result c.form_told.result (c.form_told.ensures ∙ ap form_told c.codes.ensures.value)
    c.in_default.not-Some)

pub returns-clause-none : goal.returns-clause-none
returns-clause-none c = none_told c.args.members.now c.loop-member.member-index c.loop-member-test.false
    c.loop-member.invariant
