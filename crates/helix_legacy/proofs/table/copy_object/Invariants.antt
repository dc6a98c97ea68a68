use Rattle.std.proofs.Common.{◌≡◌, take}
use Rattle.helix_legacy.proofs.table.copy_object.Given as goal

abbrev pub invariant-loop-member : goal.invariant-loop-member
invariant-loop-member l = l.all ≡ take l.member-index l.members
