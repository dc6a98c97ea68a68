use Rattle.std.proofs.Common.{◌≡◌, take}
use Rattle.helix_json.proofs.value.+copy.Given as goal

abbrev pub invariant-copy_items-loop-item : goal.invariant-copy_items-loop-item
invariant-copy_items-loop-item l = l.all ≡ take l.item-index l.items

abbrev pub invariant-copy_members-loop-member : goal.invariant-copy_members-loop-member
invariant-copy_members-loop-member l = l.all ≡ take l.member-index l.members
