use Rattle.helix_partition.specs.Inner.Labels.{JoinsUpTo}
use Rattle.helix_partition.proofs.join.join_all.Given as goal

abbrev pub invariant-loop-field : goal.invariant-loop-field
invariant-loop-field l = JoinsUpTo l.initial.labels l.labels l.fields l.field-index
