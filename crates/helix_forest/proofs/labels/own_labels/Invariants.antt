use Rattle.helix_forest.specs.Inner.Trees.{AreOwn}
use Rattle.helix_forest.proofs.labels.own_labels.Given as goal

abbrev pub invariant-loop-field : goal.invariant-loop-field
invariant-loop-field l = AreOwn l.labels.items l.field
