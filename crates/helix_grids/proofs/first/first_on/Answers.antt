use Rattle.std.proofs.Common.{rules, ◌≤ℤ◌, FitsSigned, to_z-of_z, arith}
use Rattle.std.specs.Int.{w128}
use Rattle.std.proofs.lemmas.Int.{ints}
use Rattle.helix_grids.proofs.LeastValues.{least_within}
use Rattle.helix_grids.proofs.first.first_on.Goals as goal

pub returns-in-Some : goal.returns-in-Some
returns-in-Some g c =
    let bound : FitsSigned w128 c.args.bound = c.ranges.bound in
    let fits : FitsSigned w128 c.in-Some.value = search rules in
    let most : FitsSigned w128 c.args.most = c.ranges.most in
    let below : c.in-Some.value ≤ℤ c.args.most = grind (arith, ints) in
    rw to_z-of_z (least_within _ _ _ _ _ c.requires.range (simp to_z-of_z at c.in-Some.ensures.some) below)
