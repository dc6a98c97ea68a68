use Rattle.std.proofs.Common.{◌≡◌, take}
use Rattle.helix_profile.proofs.constraint.+copy.Given as goal

abbrev pub invariant-copy_parts-loop-constraint : goal.invariant-copy_parts-loop-constraint
invariant-copy_parts-loop-constraint l = l.all ≡ take l.constraint-index l.constraints
