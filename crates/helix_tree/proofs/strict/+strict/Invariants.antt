use Rattle.std.proofs.Common.{◌≡◌, take}
use Rattle.helix_tree.specs.TreeOf.{negations_of_all}
use Rattle.helix_tree.proofs.strict.+strict.Given as goal

abbrev pub invariant-all_negated-loop-tree : goal.invariant-all_negated-loop-tree
invariant-all_negated-loop-tree l = l.all ≡ negations_of_all (take l.tree-index l.trees)
