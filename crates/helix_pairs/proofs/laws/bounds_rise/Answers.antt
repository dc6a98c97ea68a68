use Rattle.helix_pairs.specs.BoundLaws.{lower_rises, upper_rises, upper_holds_below}
use Rattle.helix_pairs.proofs.laws.bounds_rise.Goals as goal

pub returns-clause-lower : goal.returns-clause-lower
returns-clause-lower g c =
    lower_rises (g.S.Shift.low c.args.shift.now) (g.S.Shift.high c.args.shift.now) (g.S.Shift.applied c.args.shift.now)
    (g.met.S.Shift.rises c.args.shift.now)

pub returns-clause-upper : goal.returns-clause-upper
returns-clause-upper g c =
    upper_rises (g.S.Shift.low c.args.shift.now) (g.S.Shift.high c.args.shift.now) (g.S.Shift.applied c.args.shift.now)
    (g.met.S.Shift.rises c.args.shift.now)

pub returns-clause-below : goal.returns-clause-below
returns-clause-below g c =
    upper_holds_below (g.S.Shift.low c.args.shift.now) (g.S.Shift.high c.args.shift.now)
    (g.S.Shift.applied c.args.shift.now) (g.met.S.Shift.rises c.args.shift.now)
