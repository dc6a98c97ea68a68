use Rattle.std.proofs.Common.{rules, FitsSigned, to_z-of_z}
use Rattle.std.specs.Int.{w128}
use Rattle.helix_grids.proofs.whole.with_test.Goals as goal

pub returns-in-Least-clause-exact : goal.returns-in-Least-clause-exact
returns-in-Least-clause-exact g c =
    let bound : FitsSigned w128 c.in-Least.bound = search rules in
    rw c.in-Least.is (λ v. simp to_z-of_z at (c.with_least.ensures.exact c.args.scale.now v))

pub returns-in-Most-clause-exact : goal.returns-in-Most-clause-exact
returns-in-Most-clause-exact g c =
    let bound : FitsSigned w128 c.in-Most.bound = search rules in
    rw c.in-Most.is (λ v. simp to_z-of_z at (c.with_most.ensures.exact c.args.scale.now v))

pub returns-in-On-clause-exact : goal.returns-in-On-clause-exact
returns-in-On-clause-exact g c =
    rw c.in-On.is (λ v. c.with_on.ensures.exact c.args.scale.now v c.requires.window
    (rw c.in-On.is at c.requires.level))

pub returns-in-Off-clause-exact : goal.returns-in-Off-clause-exact
returns-in-Off-clause-exact g c =
    rw c.in-Off.is (λ v. c.with_off.ensures.exact c.args.scale.now v c.requires.window
    (rw c.in-Off.is at c.requires.level))
