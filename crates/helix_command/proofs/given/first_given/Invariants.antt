use Rattle.std.proofs.Common.{◌≡◌, drop, find}
use Rattle.helix_command.specs.Given.{is_among}
use Rattle.helix_command.proofs.given.first_given.Given as goal

abbrev pub invariant-loop-group : goal.invariant-loop-group
invariant-loop-group l =
    find (λ group. is_among l.among group) (drop l.group-index l.groups)
    ≡ find (λ group. is_among l.among group) l.groups
