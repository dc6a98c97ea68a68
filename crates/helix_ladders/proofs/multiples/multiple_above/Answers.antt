use Rattle.std.proofs.Common.{arith, ◌<ℤ◌, ◌≤ℤ◌, pos, FitsSigned}
use Rattle.std.specs.Int.{w128}
use Rattle.std.proofs.lemmas.Int.{ints}
use Rattle.helix_ladders.proofs.NearMultiples.{size_is, least_multiple_above, least_multiple_towards_zero}
use Rattle.helix_ladders.proofs.multiples.multiple_above.Goals as goal

pub returns-then-bound-lt0 : goal.returns-then-bound-lt0
returns-then-bound-lt0 c =
    let fits : FitsSigned w128 c.args.bound = c.ranges.bound in
    let sign : c.args.bound <ℤ pos 0 = grind (arith, ints) in
    least_multiple_towards_zero c.args.step c.args.past c.args.bound _ c.requires.some c.requires.past sign
    (omega (arith, ints, size_is c.args.bound))

pub returns-else-bound-lt0 : goal.returns-else-bound-lt0
returns-else-bound-lt0 c =
    let fits : FitsSigned w128 c.args.bound = c.ranges.bound in
    let sign : pos 0 ≤ℤ c.args.bound = grind (arith, ints) in
    least_multiple_above c.args.step c.args.past c.args.bound _ c.requires.some c.requires.past (omega arith) sign
    (omega (arith, ints, size_is c.args.bound))
