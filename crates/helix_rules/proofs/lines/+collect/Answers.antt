use Rattle.helix_rules.specs.declared.lines.Inside.TheVariants as inside
use Rattle.helix_rules.proofs.Collecting.{by_inside, from_items, nothing_more}
use Rattle.helix_rules.proofs.lines.+collect.Goals as goal

pub push_constraint-returns-in-None : goal.push_constraint-returns-in-None
push_constraint-returns-in-None t c = nothing_more c.args.fields.now c.args.json.now c.args.lines.now.items
    c.in-None.ensures.none

pub push_list-returns-in-Some : goal.push_list-returns-in-Some
push_list-returns-in-Some t c = from_items c.args.fields.now c.args.json.now c.in-Some.items.now
    c.args.lines.now.items c.push_items.new.lines.items c.push_items.result c.in-Some.ensures.some c.push_items.ensures

pub push_object-returns-in-Nothing : goal.push_object-returns-in-Nothing
push_object-returns-in-Nothing t c = by_inside c.args.fields.now c.args.members.now c.form_of-form.result
    c.inside_of.result inside.Nothing c.args.lines.now.items c.push_own.new.lines.items c.push_own.result
    c.form_of-form.ensures c.inside_of.ensures c.in-Nothing.is c.push_own.ensures

pub push_object-returns-in-Operands : goal.push_object-returns-in-Operands
push_object-returns-in-Operands t c = by_inside c.args.fields.now c.args.members.now c.form_of-form.result
    c.inside_of.result inside.Operands c.args.lines.now.items c.push_operands.new.lines.items c.push_operands.result
    c.form_of-form.ensures c.inside_of.ensures c.in-Operands.is c.push_operands.ensures

pub push_object-returns-in-Branches : goal.push_object-returns-in-Branches
push_object-returns-in-Branches t c = by_inside c.args.fields.now c.args.members.now c.form_of-form.result
    c.inside_of.result inside.Branches c.args.lines.now.items c.push_branches.new.lines.items c.push_branches.result
    c.form_of-form.ensures c.inside_of.ensures c.in-Branches.is c.push_branches.ensures
