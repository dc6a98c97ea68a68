use Rattle.helix_keywords.specs.declared.form.Form.TheVariants as form
use Rattle.helix_keywords.proofs.Telling.{told_here, none_here, none_at_all_told}
use Rattle.helix_keywords.proofs.form.form_of.Goals as goal

pub returns-in_default : goal.returns-in_default
returns-in_default c = none_at_all_told c.args.members.now c.in_default.ensures.none

pub returns-then-has_form : goal.returns-then-has_form
returns-then-has_form c = told_here c.args.members.now c.in-Some.form c.has_form.result c.has_form.ensures
    c.if-has_form.true

pub returns-then-has_form-2 : goal.returns-then-has_form-2
returns-then-has_form-2 c = told_here c.args.members.now form.IfElse c.has_form-2.result c.has_form-2.ensures
    c.if-has_form-2.true

pub returns : goal.returns
returns c = none_here c.args.members.now c.in-Some.form c.has_form.result c.has_form-2.result c.in-Some.ensures.some
    c.has_form.ensures c.if-has_form.false c.has_form-2.ensures c.if-has_form-2.false
