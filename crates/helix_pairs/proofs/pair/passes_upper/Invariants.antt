use Rattle.std.specs.List.{AllWithin}
use Rattle.helix_pairs.specs.Bounds.{MeetsUpper}
use Rattle.helix_pairs.proofs.pair.passes_upper.Given as goal

abbrev pub invariant-loop-bound : goal.invariant-loop-bound
invariant-loop-bound g l =
    AllWithin (λ b. MeetsUpper b.comparison b.child (g.S.Shift.applied b.shift) l.fn.parent l.fn.child)
    l.bounds 0 l.bound-index
