use Rattle.std.proofs.Common.{take}
use Rattle.std.specs.List.{Contains}
use Rattle.helix_grids.specs.Inner.Kept.{AreKept}
use Rattle.helix_grids.proofs.keep.common.Given as goal

abbrev pub invariant-loop-value : goal.invariant-loop-value
invariant-loop-value l = AreKept (Contains l.members) (take l.value-index l.values) l.kept.items
