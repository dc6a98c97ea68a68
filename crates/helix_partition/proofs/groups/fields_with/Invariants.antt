use Rattle.std.proofs.Common.{◌≡◌, get_or, ◌==◌}
use Rattle.helix_partition.specs.Groups.{numbers_below}
use Rattle.helix_partition.proofs.groups.fields_with.Given as goal

abbrev pub invariant-loop-field : goal.invariant-loop-field
invariant-loop-field l = l.fields ≡ numbers_below (λ f. get_or l.labels f 0 == l.label) l.field
