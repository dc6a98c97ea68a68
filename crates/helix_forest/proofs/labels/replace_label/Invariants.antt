use Rattle.helix_forest.specs.Inner.Trees.{ReplacesUpTo}
use Rattle.helix_forest.proofs.labels.replace_label.Given as goal

abbrev pub invariant-loop-label : goal.invariant-loop-label
invariant-loop-label l = ReplacesUpTo l.old l.new l.fn.labels l.labels l.label-index
