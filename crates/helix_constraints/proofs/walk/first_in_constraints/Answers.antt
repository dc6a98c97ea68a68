use Rattle.std.proofs.Common.{codes}
use Rattle.helix_places.specs.Places.{InItem}
use Rattle.helix_constraints.specs.Visited.{InConstraint}
use Rattle.helix_fields.specs.SearchLaws.{member_says, none_under}
use Rattle.helix_constraints.proofs.Walking.{top_list_says}
use Rattle.helix_constraints.proofs.walk.first_in_constraints.Goals as goal

pub returns-in_ok-in_list-in-Some : goal.returns-in_ok-in_list-in-Some
returns-in_ok-in_list-in-Some g c = member_says c.args.v.now c.in-Some.constraints.now (codes "constraints")
    (InItem (InConstraint (g.R.ConstraintRule.breaks c.args.rule.now))) c.in-Some.ensures
    c.in_ok-in_list-in-Some.field-0 c.within.result
    (top_list_says (g.R.ConstraintRule.breaks c.args.rule.now) c.in-Some.constraints.now
    c.in_ok-in_list-in-Some.field-0 c.in_ok-in_list-in-Some.ensures) c.within.ensures

pub returns-in-None : goal.returns-in-None
returns-in-None g c = none_under c.args.v.now (codes "constraints")
    (InItem (InConstraint (g.R.ConstraintRule.breaks c.args.rule.now))) c.in-None.ensures
