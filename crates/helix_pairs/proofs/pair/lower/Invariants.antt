use Rattle.std.proofs.Common.{Some}
use Rattle.helix_pairs.specs.Bounds.{MeetsLower}
use Rattle.helix_pairs.proofs.PairBounds.{AreThoseFromOf}
use Rattle.helix_pairs.proofs.pair.lower.Given as goal

abbrev pub invariant-loop-bound : goal.invariant-loop-bound
invariant-loop-bound g l =
    AreThoseFromOf l.fn.range.low l.fn.range.high
    (λ b v. MeetsLower b.comparison b.child (g.S.Shift.applied b.shift) l.fn.parent v)
    l.bounds l.bound-index (Some l.least)
