use Rattle.std.proofs.Common.{◌≡◌, take}
use Rattle.helix_tree.specs.TreeOf.{trees_of_all}
use Rattle.helix_tree.proofs.signed.+signed.Given as goal

abbrev pub invariant-trees_with-loop-constraint : goal.invariant-trees_with-loop-constraint
invariant-trees_with-loop-constraint l = l.trees ≡ trees_of_all (take l.constraint-index l.constraints) l.sign
