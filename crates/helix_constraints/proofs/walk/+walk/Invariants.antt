use Rattle.helix_places.specs.PartLaws.{NoneInItems, NoneInMembers}
use Rattle.helix_constraints.specs.declared.role.Role.TheVariants as role
use Rattle.helix_constraints.specs.Visited.{Visited}
use Rattle.helix_constraints.proofs.walk.+walk.Given as goal

abbrev pub invariant-in_members-loop-member : goal.invariant-in_members-loop-member
invariant-in_members-loop-member g l =
    NoneInMembers (Visited (g.R.ConstraintRule.breaks l.rule) l.role) l.members l.member-index

abbrev pub invariant-in_items-loop-i : goal.invariant-in_items-loop-i
invariant-in_items-loop-i g l = NoneInItems (Visited (g.R.ConstraintRule.breaks l.rule) role.One) l.items l.i
