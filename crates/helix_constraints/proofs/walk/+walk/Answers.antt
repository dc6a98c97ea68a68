use Rattle.helix_json.specs.declared.value.Json.TheViews as view
use Rattle.helix_places.specs.PartLaws.{next_member, found_member, no_more_members, next_item, found_item, no_more_items}
use Rattle.helix_constraints.specs.declared.role.Role.TheVariants as role
use Rattle.helix_constraints.specs.Visited.{Visited, Within}
use Rattle.helix_fields.specs.SearchLaws.{same_says}
use Rattle.helix_constraints.proofs.Walking.{itself_says, within_says, members_say, no_members_say, no_object_says, list_says, no_list_says}
use Rattle.helix_constraints.proofs.walk.+walk.Goals as goal

pub in_constraint-returns-in-Some : goal.in_constraint-returns-in-Some
in_constraint-returns-in-Some g t c = itself_says (g.R.ConstraintRule.breaks c.args.rule.now) c.args.json.now
    (λ place h. g.met.R.ConstraintRule.own_first c.args.rule.now c.args.json.now place h)
    c.in_ok-place.field-0 c.in-Some.place c.in_ok-place.ensures c.in-Some.is

pub in_constraint-returns-in-None : goal.in_constraint-returns-in-None
in_constraint-returns-in-None g t c = within_says (g.R.ConstraintRule.breaks c.args.rule.now) c.args.json.now
    c.in_ok-place.field-0 c.in_parts.result c.in_ok-place.ensures c.in-None.is c.in_parts.ensures

pub in_parts-returns-in-Some : goal.in_parts-returns-in-Some
in_parts-returns-in-Some g t c = same_says c.args.json.now (view.Object c.in-Some.members.now)
    (Within (g.R.ConstraintRule.breaks c.args.rule.now) role.One) c.in_object.result c.in-Some.ensures.some
    c.in_object.ensures

pub in_parts-returns-in-None : goal.in_parts-returns-in-None
in_parts-returns-in-None g t c = no_object_says (g.R.ConstraintRule.breaks c.args.rule.now) c.args.json.now
    c.in-None.ensures.none

pub in_object-returns-in-Some : goal.in_object-returns-in-Some
in_object-returns-in-Some g t c = members_say (g.R.ConstraintRule.breaks c.args.rule.now) c.args.members.now
    c.role_of_members.result c.in-Some.role c.in_members.result c.role_of_members.ensures c.in-Some.is
    c.in_members.ensures

pub in_object-returns-in-None : goal.in_object-returns-in-None
in_object-returns-in-None g t c = no_members_say (g.R.ConstraintRule.breaks c.args.rule.now) c.args.members.now
    c.role_of_members.result c.role_of_members.ensures c.in-None.is

pub in_members-returns-in-Some : goal.in_members-returns-in-Some
in_members-returns-in-Some g t c = found_member (Visited (g.R.ConstraintRule.breaks c.args.rule.now) c.args.role)
    c.args.members.now c.loop-member.member-index c.member-item.result c.loop-member-test.true c.member-item.is
    c.loop-member.invariant c.in_ok-place.field-0 c.in_ok-place.ensures c.in-Some.place c.in_ok-copy.field-0
    c.step_out.new.self c.in-Some.is c.in_ok-copy.ensures c.in_ok-step_out.ensures.ok

pub in_members-loop-member-preserved : goal.in_members-loop-member-preserved
in_members-loop-member-preserved g t c = next_member
    (Visited (g.R.ConstraintRule.breaks c.args.rule.now) c.args.role) c.args.members.now c.loop-member.member-index
    c.member-item.result c.loop-member-test.true c.member-item.is c.loop-member.invariant c.in_ok-place.field-0
    c.in_ok-place.ensures c.in_default.not-Some

pub in_members-returns : goal.in_members-returns
in_members-returns g t c = no_more_members (Visited (g.R.ConstraintRule.breaks c.args.rule.now) c.args.role)
    c.args.members.now c.loop-member.member-index c.loop-member-test.false c.loop-member.invariant

pub in_list-returns-in-Some : goal.in_list-returns-in-Some
in_list-returns-in-Some g t c = list_says (g.R.ConstraintRule.breaks c.args.rule.now) c.args.json.now
    c.in-Some.items.now c.in_items.result c.in-Some.ensures.some c.in_items.ensures

pub in_list-returns-in-None : goal.in_list-returns-in-None
in_list-returns-in-None g t c = no_list_says (g.R.ConstraintRule.breaks c.args.rule.now) c.args.json.now
    c.in-None.ensures.none

pub in_items-returns-in-Some : goal.in_items-returns-in-Some
in_items-returns-in-Some g t c = found_item (Visited (g.R.ConstraintRule.breaks c.args.rule.now) role.One)
    c.args.items.now c.loop-i.i c.index-items-i.result c.loop-i-test.true c.index-items-i.is c.loop-i.invariant
    c.in_ok-place.field-0 c.in_ok-place.ensures c.in-Some.place c.step_out.new.self c.in-Some.is
    c.in_ok-step_out.ensures.ok

pub in_items-loop-i-preserved : goal.in_items-loop-i-preserved
in_items-loop-i-preserved g t c = next_item (Visited (g.R.ConstraintRule.breaks c.args.rule.now) role.One)
    c.args.items.now c.loop-i.i c.index-items-i.result c.loop-i-test.true c.index-items-i.is c.loop-i.invariant
    c.in_ok-place.field-0 c.in_ok-place.ensures c.in_default.not-Some

pub in_items-returns : goal.in_items-returns
in_items-returns g t c = no_more_items (Visited (g.R.ConstraintRule.breaks c.args.rule.now) role.One)
    c.args.items.now c.loop-i.i c.loop-i-test.false c.loop-i.invariant
