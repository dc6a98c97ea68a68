use Rattle.std.proofs.Common.{◌≡◌, get_or, map, ◌==◌}
use Rattle.helix_partition.specs.Groups.{numbers_below}
use Rattle.helix_partition.specs.Inner.Labels.{labelled_group}
use Rattle.helix_partition.proofs.groups.groups.Given as goal

abbrev pub invariant-loop-field : goal.invariant-loop-field
invariant-loop-field l = l.groups ≡ map (labelled_group l.found.labels.items l.found.firsts)
    (numbers_below (λ f. get_or l.found.labels.items f 0 == f) l.field)
