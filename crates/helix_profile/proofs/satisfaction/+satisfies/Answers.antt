use Rattle.std.proofs.Common.{true, false, Some, None, ap, ◌∙◌}
use Rattle.helix_profile.specs.Satisfaction.{AllSatisfied, AnySatisfied}
use Rattle.helix_profile.specs.declared.constraint.Constraint.TheViews.{AllOf, AnyOf, If}
use Rattle.helix_profile.specs.SatisfactionLaws.{AllOf-plus, AllOf-minus, AnyOf-plus, AnyOf-minus}
use Rattle.helix_profile.proofs.Deciding.{not_decides, parts_decide, if_decides, itself, of_part}
use Rattle.helix_profile.proofs.satisfaction.+satisfies.Goals as goal

pub satisfies-returns-in-Not : goal.satisfies-returns-in-Not
satisfies-returns-in-Not t c = not_decides _ _ c.in-Not.negated _ c.args.row.now c.args.sign c.in-Not.is c.get.ensures
    c.satisfies.ensures

pub satisfies-returns-then-sign : goal.satisfies-returns-then-sign
satisfies-returns-then-sign t c =
    parts_decide _ _ AllOf (λ ps. AllSatisfied ps c.args.row.now true) c.in-AllOf.parts _ c.args.row.now c.args.sign
    true (λ ps. AllOf-plus ps c.args.row.now) c.in-AllOf.is c.as_slice.ensures c.if-sign.true c.all_satisfied.ensures

pub satisfies-returns-else-sign : goal.satisfies-returns-else-sign
satisfies-returns-else-sign t c =
    parts_decide _ _ AllOf (λ ps. AnySatisfied ps c.args.row.now false) c.in-AllOf.parts _ c.args.row.now c.args.sign
    false (λ ps. AllOf-minus ps c.args.row.now) c.in-AllOf.is c.as_slice-else-sign.ensures c.if-sign.false
    c.any_satisfied.ensures

pub satisfies-returns-then-sign-2 : goal.satisfies-returns-then-sign-2
satisfies-returns-then-sign-2 t c =
    parts_decide _ _ AnyOf (λ ps. AnySatisfied ps c.args.row.now true) c.in-AnyOf.parts _ c.args.row.now c.args.sign
    true (λ ps. AnyOf-plus ps c.args.row.now) c.in-AnyOf.is c.as_slice-then-sign-2.ensures c.if-sign-2.true
    c.any_satisfied-then-sign-2.ensures

pub satisfies-returns-else-sign-2 : goal.satisfies-returns-else-sign-2
satisfies-returns-else-sign-2 t c =
    parts_decide _ _ AnyOf (λ ps. AllSatisfied ps c.args.row.now false) c.in-AnyOf.parts _ c.args.row.now c.args.sign
    false (λ ps. AnyOf-minus ps c.args.row.now) c.in-AnyOf.is c.as_slice-else-sign-2.ensures c.if-sign-2.false
    c.all_satisfied-else-sign-2.ensures

pub satisfies-returns-in-None : goal.satisfies-returns-in-None
satisfies-returns-in-None t c =
    if_decides c.either_both.result c.satisfies-met.result c.satisfies-unmet.result c.satisfies-consequent.result
    c.args.sign
    c.args.constraint.now c.in-If.condition c.in-If.then None c.args.row.now c.args.sign
    (c.in-If.is ∙ ap (If c.in-If.condition c.in-If.then) c.in-None.is) c.either_both.ensures
    (of_part _ _ _ _ _ c.get-in-If.ensures c.satisfies-met.ensures)
    (of_part _ _ _ _ _ c.get-in-If-2.ensures c.satisfies-unmet.ensures)
    (of_part _ _ _ _ _ c.get-in-If-3.ensures c.satisfies-consequent.ensures)
    (itself c.args.sign)

pub satisfies-returns-in-Some : goal.satisfies-returns-in-Some
satisfies-returns-in-Some t c =
    if_decides c.either_both-in-Some.result c.satisfies-met.result c.satisfies-unmet.result
    c.satisfies-consequent.result c.satisfies-alternative.result
    c.args.constraint.now c.in-If.condition c.in-If.then (Some c.in-Some.other) c.args.row.now c.args.sign
    (c.in-If.is ∙ ap (If c.in-If.condition c.in-If.then) c.in-Some.is) c.either_both-in-Some.ensures
    (of_part _ _ _ _ _ c.get-in-If.ensures c.satisfies-met.ensures)
    (of_part _ _ _ _ _ c.get-in-If-2.ensures c.satisfies-unmet.ensures)
    (of_part _ _ _ _ _ c.get-in-If-3.ensures c.satisfies-consequent.ensures)
    (of_part _ _ _ _ _ c.get-in-Some.ensures c.satisfies-alternative.ensures)
