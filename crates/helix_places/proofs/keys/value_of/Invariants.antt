use Rattle.std.proofs.Common.{◌≡◌, drop}
use Rattle.helix_places.specs.Members.{value_of}
use Rattle.helix_places.proofs.keys.value_of.Given as goal

abbrev pub invariant-loop-member : goal.invariant-loop-member
invariant-loop-member l = value_of l.key (drop l.member-index l.members) ≡ value_of l.key l.members
