use Rattle.std.proofs.Common.{◌≡◌, take}
use Rattle.helix_partition.specs.Inner.Labels.{first_fields, LabelledBy}
use Rattle.helix_partition.proofs.labels.labels_of.Given as goal

abbrev pub invariant-loop-constraint : goal.invariant-loop-constraint
invariant-loop-constraint l = (l.firsts ≡ first_fields (take l.constraint-index l.constraints))
    × LabelledBy l.profile l.labels.items (take l.constraint-index l.constraints)
