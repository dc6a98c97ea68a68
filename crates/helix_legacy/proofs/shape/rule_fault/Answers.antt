use Rattle.helix_legacy.proofs.Shapes.{no_object, object_says}
use Rattle.helix_legacy.proofs.shape.rule_fault.Goals as goal

pub returns-in-Some : goal.returns-in-Some
returns-in-Some c = object_says c.args.rule.now c.in-Some.members.now c.members_fault.result c.in-Some.ensures.some
    c.members_fault.ensures

pub returns-in-None : goal.returns-in-None
returns-in-None c = no_object c.args.rule.now c.top.result c.in-None.ensures.none c.top.ensures
