use Rattle.std.proofs.Common.{rules, FitsSigned, to_z-of_z}
use Rattle.std.specs.Int.{w128}
use Rattle.helix_grids.proofs.Windows.{later_max, exact_least}
use Rattle.helix_grids.proofs.window.with_least.Goals as goal

pub returns-clause-exact : goal.returns-clause-exact
returns-clause-exact g c = λ s v.
    let bound : FitsSigned w128 c.args.bound = c.ranges.bound in
    let least : FitsSigned w128 c.args.window.least = search rules in
    let most : FitsSigned w128 c.args.window.most = search rules in
    let result : FitsSigned w128 c.max.result = search rules in
    simp to_z-of_z (exact_least (g.S.Scale.ladder s) c.args.window c.args.bound c.max.result
    (later_max _ _ _ (simp to_z-of_z at c.max.ensures.value)) v)
