use Rattle.std.proofs.lemmas.Int.{to_z-of_z}
use Rattle.std.specs.Int.{w128}
use Rattle.helix_pairs.specs.BoundLaws.{those_from_least}
use Rattle.helix_pairs.proofs.cuts.reaching.Goals as goal

pub returns : goal.returns
returns g c =
    those_from_least (g.S.Shift.low c.args.shift.now) (g.S.Shift.high c.args.shift.now)
    (g.S.Shift.applied c.args.shift.now) c.args.target _ c.least_from.result
    (to_z-of_z w128 c.args.target c.ranges.target) (g.met.S.Shift.rises c.args.shift.now) c.least_from.ensures.some
    c.least_from.ensures.none
