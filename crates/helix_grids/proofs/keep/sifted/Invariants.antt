use Rattle.std.proofs.Common.{take}
use Rattle.helix_grids.specs.Inner.Kept.{AreKept}
use Rattle.helix_grids.specs.Inner.Sieve.{IsSifted}
use Rattle.helix_grids.proofs.keep.sifted.Given as goal

abbrev pub invariant-loop-value : goal.invariant-loop-value
invariant-loop-value g l = AreKept (IsSifted (g.S.Scale.ladder l.scale) l.window l.excluded)
    (take l.value-index l.values) l.kept.items
