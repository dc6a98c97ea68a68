use Rattle.std.proofs.Common.{◌≡◌, map, take}
use Rattle.helix_legacy.specs.Inner.Converted.{operands, branches}
use Rattle.helix_legacy.specs.Today.{constraint_today}
use Rattle.helix_legacy.proofs.convert.+convert.Given as goal

abbrev pub invariant-operands_today-loop-old : goal.invariant-operands_today-loop-old
invariant-operands_today-loop-old l = l.all ≡ operands (take l.old-index l.members)

abbrev pub invariant-branches_today-loop-old : goal.invariant-branches_today-loop-old
invariant-branches_today-loop-old l = l.all ≡ branches (take l.old-index l.members)

abbrev pub invariant-items_today-loop-item : goal.invariant-items_today-loop-item
invariant-items_today-loop-item l = l.all ≡ map constraint_today (take l.item-index l.items)
