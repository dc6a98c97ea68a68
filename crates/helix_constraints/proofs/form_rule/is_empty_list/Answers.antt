use Rattle.helix_constraints.proofs.Operands.{empty_list}
use Rattle.helix_constraints.proofs.form_rule.is_empty_list.Goals as goal

pub returns-in-Some : goal.returns-in-Some
returns-in-Some c = empty_list c.args.json.now c.in-Some.items.now c.in-Some.ensures.some
