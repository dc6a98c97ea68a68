use Rattle.std.proofs.Common.{◌≡◌, take}
use Rattle.helix_domains.proofs.ready.members_in_order.Given as goal

abbrev pub invariant-loop-member : goal.invariant-loop-member
invariant-loop-member l = l.all.items ≡ take l.member-index l.members
