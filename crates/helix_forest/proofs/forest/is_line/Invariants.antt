use Rattle.std.proofs.Common.{◌↔◌, drop}
use Rattle.helix_profile.specs.Forest.{AreJoined}
use Rattle.helix_forest.proofs.forest.is_line.Given as goal

abbrev pub invariant-loop-line : goal.invariant-loop-line
invariant-loop-line l = AreJoined (drop l.line-index l.lines) l.relation.left l.relation.right
    ↔ AreJoined l.lines l.relation.left l.relation.right
