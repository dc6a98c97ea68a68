use Rattle.helix_operands.proofs.Given.{of_rule}
use Rattle.helix_operands.specs.declared.rule.OperandRule.TheVariants as rule
use Rattle.helix_operands.proofs.faulty.is_faulty.Goals as goal

pub returns-in-Value : goal.returns-in-Value
returns-in-Value c = of_rule c.args.kind c.args.keyword c.args.operand.now c.has_no_value.result c.args.rule rule.Value
    c.in-Value.is c.has_no_value.ensures

pub returns-in-Pattern : goal.returns-in-Pattern
returns-in-Pattern c = of_rule c.args.kind c.args.keyword c.args.operand.now c.has_no_pattern.result c.args.rule
    rule.Pattern c.in-Pattern.is c.has_no_pattern.ensures
