use Rattle.std.proofs.Common.{◌≡◌, take, length}
use Rattle.helix_forest.specs.Inner.Trees.{AreTreesOf}
use Rattle.helix_forest.proofs.forest.check_forest.Given as goal

abbrev pub invariant-loop-index : goal.invariant-loop-index
invariant-loop-index l = record {
  trees : AreTreesOf (take l.index l.relations) l.trees.labels.items l.trees.lines;
  fields : length l.trees.labels.items ≡ l.fields;
}
