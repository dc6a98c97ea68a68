use Rattle.std.proofs.Common.{◌^◌, arith, ◌≤ℤ◌, pos, FitsSigned}
use Rattle.std.specs.Int.{w128}
use Rattle.std.proofs.lemmas.Int.{ints, clamps, to_z-of_z}
use Rattle.helix_ladders.proofs.PowersOfTen.{least_in_range}
use Rattle.helix_ladders.proofs.decades.DecadesScale.ceil.Goals as goal

pub returns-clause-some : goal.returns-clause-some
returns-clause-some c =
    let fits : FitsSigned w128 c.args.bound = c.ranges.bound in
    let fits_max : FitsSigned w128 c.max-from.result = record { sfits = c.max-from.type_inv } in
    let fits_result : FitsSigned w128 c.multiple_above.result = record { sfits = c.multiple_above.type_inv } in
    let below : c.args.bound ≤ℤ pos (10 ^ 35) = grind (arith, ints) in
    least_in_range c.args.level c.power_of_ten.result c.args.bound c.max-from.result _ c.requires
    c.power_of_ten.ensures.value
    below (omega (arith, ints, clamps)) (omega (arith, ints, clamps)) (λ w from_low reached. omega (
      arith,
      ints,
      clamps,
    )) (rw to_z-of_z (rw to_z-of_z at c.multiple_above.ensures))
