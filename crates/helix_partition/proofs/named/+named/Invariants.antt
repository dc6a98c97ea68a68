use Rattle.std.proofs.Common.{◌≡◌, ◌++◌, take}
use Rattle.helix_partition.specs.Inner.Labels.{fields_of_all}
use Rattle.helix_partition.proofs.named.+named.Given as goal

abbrev pub invariant-push_all_named-loop-constraint : goal.invariant-push_all_named-loop-constraint
invariant-push_all_named-loop-constraint l =
    l.fields ≡ l.initial.fields ++ fields_of_all (take l.constraint-index l.constraints)
