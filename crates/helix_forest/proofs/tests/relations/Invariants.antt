use Rattle.std.specs.List.{All}
use Rattle.helix_forest.specs.Closing.{HasEndsBelow}
use Rattle.helix_forest.proofs.tests.relations.Given as goal

abbrev pub invariant-loop-left : goal.invariant-loop-left
invariant-loop-left l = All (HasEndsBelow 8) l.relations.items
