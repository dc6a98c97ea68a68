use Rattle.std.proofs.Common.{Some}
use Rattle.helix_pairs.specs.Bounds.{MeetsUpper}
use Rattle.helix_pairs.proofs.PairBounds.{AreThoseFromOf}
use Rattle.helix_pairs.proofs.pair.inverse.Given as goal

abbrev pub invariant-loop-bound : goal.invariant-loop-bound
invariant-loop-bound g l =
    AreThoseFromOf l.fn.range.low l.fn.range.high
    (λ b p. MeetsUpper b.comparison b.child (g.S.Shift.applied b.shift) p l.fn.child)
    l.bounds l.bound-index (Some l.least)
