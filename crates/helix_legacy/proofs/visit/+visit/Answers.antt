use Rattle.std.proofs.Common.{sym, ◌∙◌}
use Rattle.helix_legacy.specs.Visited.{BreaksTests, one, many}
use Rattle.helix_places.specs.PartLaws.{next_member, found_member, no_more_members, next_item, found_item, no_more_items}
use Rattle.helix_legacy.proofs.Visiting.{test_says, operands_say, branches_say, other_finds, no_object_finds, object_says, list_says, no_list_finds}
use Rattle.helix_legacy.proofs.visit.+visit.Goals as goal

pub in_object-returns-in-Test : goal.in_object-returns-in-Test
in_object-returns-in-Test t c =
    test_says c.args.members.now c.test_fault.result (sym c.form_of.ensures ∙ c.in-Test.is) c.test_fault.ensures

pub in_object-returns-in-Operands : goal.in_object-returns-in-Operands
in_object-returns-in-Operands t c =
    operands_say c.args.members.now c.in_operands.result (sym c.form_of.ensures
    ∙ c.in-Operands.is) c.in_operands.ensures

pub in_object-returns-in-Branches : goal.in_object-returns-in-Branches
in_object-returns-in-Branches t c =
    branches_say c.args.members.now c.in_branches.result (sym c.form_of.ensures
    ∙ c.in-Branches.is) c.in_branches.ensures

pub in_object-returns-in-Other : goal.in_object-returns-in-Other
in_object-returns-in-Other t c = λ keys. other_finds c.args.members.now (sym c.form_of.ensures ∙ c.in-Other.is)

pub in_constraint-returns-in-Some : goal.in_constraint-returns-in-Some
in_constraint-returns-in-Some t c = object_says c.args.json.now c.in-Some.members.now c.in_object.result
    c.in-Some.ensures.some c.in_object.ensures

pub in_constraint-returns-in-None : goal.in_constraint-returns-in-None
in_constraint-returns-in-None t c = λ keys. no_object_finds c.args.json.now c.in-None.ensures.none

pub in_constraints-returns-in-Some : goal.in_constraints-returns-in-Some
in_constraints-returns-in-Some t c = list_says c.args.json.now c.in-Some.items.now c.in_items.result
    c.in-Some.ensures.some c.in_items.ensures

pub in_constraints-returns-in-None : goal.in_constraints-returns-in-None
in_constraints-returns-in-None t c = λ keys. no_list_finds c.args.json.now (sym c.in-None.ensures.none)

pub in_operands-returns-in-Some : goal.in_operands-returns-in-Some
in_operands-returns-in-Some t c = found_member (BreaksTests one) c.args.members.now c.loop-member.member-index
    c.member-item.result c.loop-member-test.true c.member-item.is c.loop-member.invariant c.in_ok-place.field-0
    c.in_ok-place.ensures c.in-Some.place c.in_ok-copy.field-0 c.step_out.new.self c.in-Some.is c.in_ok-copy.ensures
    c.in_ok-step_out.ensures.ok

pub in_operands-loop-member-preserved : goal.in_operands-loop-member-preserved
in_operands-loop-member-preserved t c = next_member (BreaksTests one) c.args.members.now c.loop-member.member-index
    c.member-item.result c.loop-member-test.true c.member-item.is c.loop-member.invariant c.in_ok-place.field-0
    c.in_ok-place.ensures c.in_default.not-Some

pub in_operands-returns : goal.in_operands-returns
in_operands-returns t c = no_more_members (BreaksTests one) c.args.members.now c.loop-member.member-index
    c.loop-member-test.false c.loop-member.invariant

pub in_branches-returns-in-Some : goal.in_branches-returns-in-Some
in_branches-returns-in-Some t c = found_member (BreaksTests many) c.args.members.now c.loop-member.member-index
    c.member-item.result c.loop-member-test.true c.member-item.is c.loop-member.invariant c.in_ok-place.field-0
    c.in_ok-place.ensures c.in-Some.place c.in_ok-copy.field-0 c.step_out.new.self c.in-Some.is c.in_ok-copy.ensures
    c.in_ok-step_out.ensures.ok

pub in_branches-loop-member-preserved : goal.in_branches-loop-member-preserved
in_branches-loop-member-preserved t c = next_member (BreaksTests many) c.args.members.now c.loop-member.member-index
    c.member-item.result c.loop-member-test.true c.member-item.is c.loop-member.invariant c.in_ok-place.field-0
    c.in_ok-place.ensures c.in_default.not-Some

pub in_branches-returns : goal.in_branches-returns
in_branches-returns t c = no_more_members (BreaksTests many) c.args.members.now c.loop-member.member-index
    c.loop-member-test.false c.loop-member.invariant

pub in_items-returns-in-Some : goal.in_items-returns-in-Some
in_items-returns-in-Some t c = found_item (BreaksTests one) c.args.items.now c.loop-i.i
    c.index-items-i.result c.loop-i-test.true c.index-items-i.is c.loop-i.invariant c.in_ok-place.field-0
    c.in_ok-place.ensures c.in-Some.place c.step_out.new.self c.in-Some.is c.in_ok-step_out.ensures.ok

pub in_items-loop-i-preserved : goal.in_items-loop-i-preserved
in_items-loop-i-preserved t c = next_item (BreaksTests one) c.args.items.now c.loop-i.i
    c.index-items-i.result c.loop-i-test.true c.index-items-i.is c.loop-i.invariant c.in_ok-place.field-0
    c.in_ok-place.ensures c.in_default.not-Some

pub in_items-returns : goal.in_items-returns
in_items-returns t c = no_more_items (BreaksTests one) c.args.items.now c.loop-i.i c.loop-i-test.false
    c.loop-i.invariant
