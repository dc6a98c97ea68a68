use Rattle.helix_constraints.specs.Inner.Operands.{passes}
use Rattle.helix_constraints.proofs.Operands.{operand_says}
use Rattle.helix_constraints.proofs.form_rule.operand_fault.Goals as goal

pub returns-in-Some : goal.returns-in-Some
returns-in-Some c = operand_says (passes c.args.test) c.args.v.now c.in-Some.key.now c.form_in.result
    c.fault_under.result c.in-Some.ensures c.form_in.ensures c.fault_under.ensures
