use Rattle.std.proofs.Common.{◌≡◌, map, take}
use Rattle.helix_legacy.specs.Today.{member_today}
use Rattle.helix_legacy.proofs.whole.whole_today.Given as goal

abbrev pub invariant-loop-old : goal.invariant-loop-old
invariant-loop-old l = l.all ≡ map member_today (take l.old-index l.members)
