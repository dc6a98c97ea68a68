use Rattle.std.proofs.Common.{ℤ, ◌<ℤ◌, subst}
use Rattle.std.proofs.lemmas.Int.{to_z-of_z}
use Rattle.std.specs.Int.{w128}
use Rattle.helix_pairs.specs.Bounds.{AreThoseFrom}
use Rattle.helix_pairs.specs.BoundLaws.{those_past}
use Rattle.helix_pairs.proofs.right.past.Goals as goal

pub returns : goal.returns
returns g c =
    let those = subst (λ (parent : ℤ). AreThoseFrom (g.S.Shift.low c.args.shift.now) (g.S.Shift.high c.args.shift.now)
    (λ v. parent <ℤ g.S.Shift.applied c.args.shift.now v) c.exceeding.result)
    (to_z-of_z w128 c.args.parent c.ranges.parent) c.exceeding.ensures in
    those_past c.args.comparison (g.S.Shift.low c.args.shift.now) (g.S.Shift.high c.args.shift.now) c.args.parent
    c.args.child (g.S.Shift.applied c.args.shift.now) c.exceeding.result (g.met.S.Shift.rises c.args.shift.now)
    c.requires.from_low c.requires.excluded those
