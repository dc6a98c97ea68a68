use Rattle.std.proofs.Common.{◌≡◌, get_or, ◌==◌}
use Rattle.helix_partition.specs.Groups.{numbers_below}
use Rattle.helix_partition.proofs.groups.constraints_with.Given as goal

abbrev pub invariant-loop-number : goal.invariant-loop-number
invariant-loop-number l = l.constraints ≡ numbers_below (λ n. get_or l.labels (get_or l.firsts n 0) 0 == l.label)
    l.number
