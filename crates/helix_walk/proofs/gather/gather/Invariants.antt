use Rattle.std.proofs.Common.{take}
use Rattle.helix_walk.specs.Parts.{ArePartsFor}
use Rattle.helix_walk.proofs.gather.gather.Given as goal

abbrev pub invariant-loop-group : goal.invariant-loop-group
invariant-loop-group l = ArePartsFor l.profile l.all.items (take l.group-index l.groups) l.parts
