use Rattle.std.proofs.Common.{sym, ◌∙◌}
use Rattle.helix_legacy.specs.declared.form.Form.TheVariants as form
use Rattle.helix_legacy.proofs.Converting.{by_form, object_converts, list_converts}
use Rattle.helix_legacy.proofs.convert.+convert.Goals as goal

pub object_today-returns-in-Test : goal.object_today-returns-in-Test
object_today-returns-in-Test t c = by_form c.args.members.now form.Test c.test_today.result
    (sym c.form_of.ensures ∙ c.in-Test.is) c.test_today.ensures

pub object_today-returns-in-Operands : goal.object_today-returns-in-Operands
object_today-returns-in-Operands t c = by_form c.args.members.now form.Operands c.operands_today.result
    (sym c.form_of.ensures ∙ c.in-Operands.is) c.operands_today.ensures

pub object_today-returns-in-Branches : goal.object_today-returns-in-Branches
object_today-returns-in-Branches t c = by_form c.args.members.now form.Branches c.branches_today.result
    (sym c.form_of.ensures ∙ c.in-Branches.is) c.branches_today.ensures

pub object_today-returns-in-Other : goal.object_today-returns-in-Other
object_today-returns-in-Other t c = by_form c.args.members.now form.Other c.copy_object.result
    (sym c.form_of.ensures ∙ c.in-Other.is) c.copy_object.ensures

pub constraint_today-returns-in-Object : goal.constraint_today-returns-in-Object
constraint_today-returns-in-Object t c = object_converts c.args.json.now c.in-Object.members c.as_slice.result.now
    c.object_today.result c.in-Object.is c.as_slice.ensures c.object_today.ensures

pub constraints_today-returns-in-List : goal.constraints_today-returns-in-List
constraints_today-returns-in-List t c = list_converts c.args.json.now c.in-List.items c.as_slice.result.now
    c.items_today.result c.in-List.is c.as_slice.ensures c.items_today.ensures
