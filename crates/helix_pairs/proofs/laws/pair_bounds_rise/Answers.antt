use Rattle.std.proofs.Common.{slice_index_or, arith}
use Rattle.std.proofs.lemmas.Int.{ints}
use Rattle.helix_pairs.specs.BoundLaws.{lower_rises, upper_rises, upper_holds_below}
use Rattle.helix_pairs.proofs.laws.pair_bounds_rise.Goals as goal

pub returns-clause-lower : goal.returns-clause-lower
returns-clause-lower g c =
    λ p q v from_low below to_high all k d within.
    let b = slice_index_or c.args.bounds.now k d in
    let own = c.requires k d within in
    lower_rises (g.S.Shift.low b.shift) (g.S.Shift.high b.shift) (g.S.Shift.applied b.shift)
    (g.met.S.Shift.rises b.shift) b.comparison b.child p q v (omega (arith, ints, own.0)) below
    (omega (arith, ints, own.1)) (all k d within)

pub returns-clause-upper : goal.returns-clause-upper
returns-clause-upper g c =
    λ p q v from_low below to_high all k d within.
    let b = slice_index_or c.args.bounds.now k d in
    let own = c.requires k d within in
    upper_rises (g.S.Shift.low b.shift) (g.S.Shift.high b.shift) (g.S.Shift.applied b.shift)
    (g.met.S.Shift.rises b.shift) b.comparison b.child p q v (omega (arith, ints, own.0)) below
    (omega (arith, ints, own.1)) (all k d within)

pub returns-clause-below : goal.returns-clause-below
returns-clause-below g c =
    λ p v w from_low below to_high all k d within.
    let b = slice_index_or c.args.bounds.now k d in
    let own = c.requires k d within in
    upper_holds_below (g.S.Shift.low b.shift) (g.S.Shift.high b.shift) (g.S.Shift.applied b.shift)
    (g.met.S.Shift.rises b.shift) b.comparison b.child p v w (omega (arith, ints, own.0)) below
    (omega (arith, ints, own.1)) (all k d within)
