use Rattle.helix_legacy.specs.Visited.{BreaksTests, one, many}
use Rattle.helix_places.specs.PartLaws.{NoneInItems, NoneInMembers}
use Rattle.helix_legacy.proofs.visit.+visit.Given as goal

abbrev pub invariant-in_operands-loop-member : goal.invariant-in_operands-loop-member
invariant-in_operands-loop-member l = NoneInMembers (BreaksTests one) l.members l.member-index

abbrev pub invariant-in_branches-loop-member : goal.invariant-in_branches-loop-member
invariant-in_branches-loop-member l = NoneInMembers (BreaksTests many) l.members l.member-index

abbrev pub invariant-in_items-loop-i : goal.invariant-in_items-loop-i
invariant-in_items-loop-i l = NoneInItems (BreaksTests one) l.items l.i
