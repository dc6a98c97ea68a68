use Rattle.std.proofs.Common.{◌^◌, arith, ◌≤ℤ◌, pos, neg_ℤ, FitsSigned}
use Rattle.std.specs.Int.{w128}
use Rattle.std.proofs.lemmas.Int.{ints, clamps, to_z-of_z}
use Rattle.helix_ladders.proofs.PowersOfTen.{greatest_in_range}
use Rattle.helix_ladders.proofs.decades.DecadesScale.floor.Goals as goal

pub returns-clause-some : goal.returns-clause-some
returns-clause-some c =
    let fits : FitsSigned w128 c.args.bound = c.ranges.bound in
    let fits_min : FitsSigned w128 c.min-to.result = record { sfits = c.min-to.type_inv } in
    let fits_result : FitsSigned w128 c.multiple_below.result = record { sfits = c.multiple_below.type_inv } in
    let above : neg_ℤ (pos (10 ^ 35)) ≤ℤ c.args.bound = grind (arith, ints) in
    greatest_in_range c.args.level c.power_of_ten.result c.args.bound c.min-to.result _ c.requires
    c.power_of_ten.ensures.value
    above (omega (arith, ints, clamps)) (omega (arith, ints, clamps)) (λ w to_high within. omega (arith, ints, clamps))
    (rw to_z-of_z (rw to_z-of_z at c.multiple_below.ensures))
