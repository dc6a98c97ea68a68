use Rattle.std.proofs.Common.{◌≡◌, ◌∙◌, None, sym}
use Rattle.helix_fields.specs.SearchLaws.{below_says, top_says}
use Rattle.helix_constraints.specs.Rules.{AtOperand, form_in, is_no_list}
use Rattle.helix_constraints.proofs.Operands.{some_form}
use Rattle.helix_constraints.proofs.form_rule.form_fault.Goals as goal

pub returns-in-Some : goal.returns-in-Some
returns-in-Some c = below_says c.args.v.now (λ v. form_in v ≡ None) (AtOperand is_no_list) c.operand_fault.result
    (some_form c.form_in.result c.args.v.now c.in-Some.field-0 c.form_in.ensures c.in-Some.is)
    c.operand_fault.ensures

pub returns-in-None : goal.returns-in-None
returns-in-None c = top_says c.args.v.now (λ v. form_in v ≡ None) (AtOperand is_no_list) c.top.result c.top.ensures
    (sym c.form_in.ensures ∙ c.in-None.is)
