use Rattle.std.proofs.Common.{rules, sym, ◌∙◌, FitsSigned, to_z-of_z}
use Rattle.std.specs.Int.{w128}
use Rattle.helix_domains.proofs.GridTests.{bound_on, compared}
use Rattle.helix_domains.proofs.bounds.bound_test.Goals as goal

pub unreachable-requires : goal.unreachable-requires
unreachable-requires c =
    let on = bound_on c.args.line c.args.bound.now c.requires.bound in
    c.in-None.ensures.none on.0 (c.view.ensures ∙ on.1)

pub returns-clause-exact : goal.returns-clause-exact
returns-clause-exact c =
    let fits : FitsSigned w128 c.in-Some.units = search rules in
    compared c.args.line c.args.how c.args.sign c.args.bound.now c.in-Some.units c.compare_test.result
    (sym c.view.ensures ∙ c.in-Some.ensures.some) (simp to_z-of_z at c.compare_test.ensures.exact)
