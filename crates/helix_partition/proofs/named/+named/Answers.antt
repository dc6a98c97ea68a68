use Rattle.helix_profile.specs.declared.constraint.Constraint.TheViews.{AllOf, AnyOf}
use Rattle.helix_partition.proofs.NamedFields.{fields-AllOf, fields-AnyOf, on_ok, appends_not, appends_parts, appends_if, appends_if_else}
use Rattle.helix_partition.proofs.named.+named.Goals as goal

pub push_named-returns-in-Not : goal.push_named-returns-in-Not
push_named-returns-in-Not t c = on_ok _ _ c.push_named.result
    (appends_not c.push_named.new.fields c.args.fields.now c.args.constraint.now c.in-Not.negated c.get.result.now
    c.in-Not.is c.get.ensures)
    c.push_named.ensures

pub push_named-returns-in-AllOf : goal.push_named-returns-in-AllOf
push_named-returns-in-AllOf t c = on_ok _ _ c.push_all_named.result
    (appends_parts AllOf fields-AllOf c.push_all_named.new.fields c.args.fields.now c.args.constraint.now
    c.in-AllOf.parts c.as_slice.result.now c.in-AllOf.is c.as_slice.ensures)
    c.push_all_named.ensures

pub push_named-returns-in-AnyOf : goal.push_named-returns-in-AnyOf
push_named-returns-in-AnyOf t c = on_ok _ _ c.push_all_named-in-AnyOf.result
    (appends_parts AnyOf fields-AnyOf c.push_all_named-in-AnyOf.new.fields c.args.fields.now c.args.constraint.now
    c.in-AnyOf.parts c.as_slice-in-AnyOf.result.now c.in-AnyOf.is c.as_slice-in-AnyOf.ensures)
    c.push_all_named-in-AnyOf.ensures

pub push_named-returns-in-None : goal.push_named-returns-in-None
push_named-returns-in-None t c = appends_if c.args.fields.now c.push_named-in-If.new.fields
    c.push_named-in-If-2.new.fields
    c.args.constraint.now c.in-If.condition c.in-If.then c.get-in-If.result.now c.get-in-If-2.result.now
    c.in-If.otherwise c.in-If.is c.in-None.is c.get-in-If.ensures c.get-in-If-2.ensures
    c.in_ok-push_named-in-If.ensures c.in_ok-push_named-in-If-2.ensures

pub push_named-returns-in-Some : goal.push_named-returns-in-Some
push_named-returns-in-Some t c = on_ok _ _ c.push_named-in-Some.result
    (appends_if_else c.args.fields.now c.push_named-in-If.new.fields c.push_named-in-If-2.new.fields
    c.push_named-in-Some.new.fields c.args.constraint.now c.in-If.condition c.in-If.then c.in-Some.other
    c.get-in-If.result.now c.get-in-If-2.result.now c.get-in-Some.result.now c.in-If.otherwise c.in-If.is c.in-Some.is
    c.get-in-If.ensures c.get-in-If-2.ensures c.get-in-Some.ensures c.in_ok-push_named-in-If.ensures
    c.in_ok-push_named-in-If-2.ensures)
    c.push_named-in-Some.ensures
