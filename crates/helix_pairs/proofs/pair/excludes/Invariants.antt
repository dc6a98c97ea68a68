use Rattle.std.specs.List.{AllWithin}
use Rattle.helix_pairs.specs.Bounds.{IsExcluded}
use Rattle.helix_pairs.proofs.pair.excludes.Given as goal

abbrev pub invariant-loop-bound : goal.invariant-loop-bound
invariant-loop-bound g l =
    AllWithin (λ b. ¬ IsExcluded b.comparison b.child (g.S.Shift.applied b.shift) l.fn.parent l.fn.child) l.bounds 0
    l.bound-index
