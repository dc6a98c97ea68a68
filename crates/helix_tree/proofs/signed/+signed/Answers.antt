use Rattle.std.proofs.Common.{true, false}
use Rattle.helix_profile.specs.declared.constraint.Constraint.TheViews.{AllOf, AnyOf}
use Rattle.helix_tree.specs.declared.tree.Tree.TheViews.{All, Any}
use Rattle.helix_tree.proofs.SignedTrees.{AllOf-plus, AllOf-minus, AnyOf-plus, AnyOf-minus, not_tree, parts_tree, if_ok, if_plus, if_minus, if_other}
use Rattle.helix_tree.proofs.signed.+signed.Goals as goal

pub tree_with-returns-in-Not : goal.tree_with-returns-in-Not
tree_with-returns-in-Not t c = if_ok _ _ c.tree_with.result
    (λ tree. not_tree tree c.args.constraint.now c.in-Not.negated c.get.result.now c.args.sign c.in-Not.is
    c.get.ensures)
    c.tree_with.ensures

pub tree_with-returns-then-sign : goal.tree_with-returns-then-sign
tree_with-returns-then-sign t c = parts_tree All AllOf true AllOf-plus _ c.args.constraint.now c.in-AllOf.parts
    c.as_slice.result.now c.args.sign c.in-AllOf.is c.as_slice.ensures c.if-sign.true c.in_ok-trees-in-AllOf.ensures

pub tree_with-returns-else-sign : goal.tree_with-returns-else-sign
tree_with-returns-else-sign t c = parts_tree Any AllOf false AllOf-minus _ c.args.constraint.now c.in-AllOf.parts
    c.as_slice.result.now c.args.sign c.in-AllOf.is c.as_slice.ensures c.if-sign.false c.in_ok-trees-in-AllOf.ensures

pub tree_with-returns-then-sign-2 : goal.tree_with-returns-then-sign-2
tree_with-returns-then-sign-2 t c = parts_tree Any AnyOf true AnyOf-plus _ c.args.constraint.now c.in-AnyOf.parts
    c.as_slice-in-AnyOf.result.now c.args.sign c.in-AnyOf.is c.as_slice-in-AnyOf.ensures c.if-sign-2.true
    c.in_ok-trees-in-AnyOf.ensures

pub tree_with-returns-else-sign-2 : goal.tree_with-returns-else-sign-2
tree_with-returns-else-sign-2 t c = parts_tree All AnyOf false AnyOf-minus _ c.args.constraint.now c.in-AnyOf.parts
    c.as_slice-in-AnyOf.result.now c.args.sign c.in-AnyOf.is c.as_slice-in-AnyOf.ensures c.if-sign-2.false
    c.in_ok-trees-in-AnyOf.ensures

pub tree_with-returns-in_ok-tree_with-in-None : goal.tree_with-returns-in_ok-tree_with-in-None
tree_with-returns-in_ok-tree_with-in-None t c = if_ok _ _ c.any_of.result
    (λ tree. if_plus tree c.in_ok-both-in-If.both c.in_ok-met-in-If.met c.in_ok-consequent-in-If.consequent
    c.in_ok-tree_with-in-None.field-0 c.args.constraint.now c.in-If.condition c.in-If.then c.get-in-If.result.now
    c.get-in-If-2.result.now c.get-then-sign-3.result.now c.in-If.otherwise c.args.sign c.in-If.is c.in-None.is
    c.if-sign-3.true c.get-in-If.ensures c.in_ok-met-in-If.ensures c.get-in-If-2.ensures
    c.in_ok-consequent-in-If.ensures c.in_ok-both-in-If.ensures c.get-then-sign-3.ensures
    c.in_ok-tree_with-in-None.ensures)
    c.any_of.ensures

pub tree_with-returns-else-sign-3 : goal.tree_with-returns-else-sign-3
tree_with-returns-else-sign-3 t c =
    if_minus c.in_ok-both-in-If.both c.in_ok-met-in-If.met c.in_ok-consequent-in-If.consequent c.args.constraint.now
    c.in-If.condition c.in-If.then c.get-in-If.result.now c.get-in-If-2.result.now c.in-If.otherwise c.args.sign
    c.in-If.is c.in-None.is c.if-sign-3.false c.get-in-If.ensures c.in_ok-met-in-If.ensures c.get-in-If-2.ensures
    c.in_ok-consequent-in-If.ensures c.in_ok-both-in-If.ensures

pub tree_with-returns-in_ok-others-in-Some : goal.tree_with-returns-in_ok-others-in-Some
tree_with-returns-in_ok-others-in-Some t c = if_ok _ _ c.any_of-in-Some.result
    (λ tree. if_other tree c.in_ok-both-in-If.both c.in_ok-others-in-Some.others c.in_ok-met-in-If.met
    c.in_ok-consequent-in-If.consequent c.in_ok-unmet-in-Some.unmet c.in_ok-alternative-in-Some.alternative
    c.args.constraint.now c.in-If.condition c.in-If.then c.in-Some.other c.get-in-If.result.now
    c.get-in-If-2.result.now c.get-in-Some.result.now c.get-in-Some-2.result.now c.in-If.otherwise c.args.sign
    c.in-If.is c.in-Some.is c.get-in-If.ensures c.in_ok-met-in-If.ensures c.get-in-If-2.ensures
    c.in_ok-consequent-in-If.ensures c.in_ok-both-in-If.ensures c.get-in-Some.ensures c.in_ok-unmet-in-Some.ensures
    c.get-in-Some-2.ensures c.in_ok-alternative-in-Some.ensures c.in_ok-others-in-Some.ensures)
    c.any_of-in-Some.ensures
