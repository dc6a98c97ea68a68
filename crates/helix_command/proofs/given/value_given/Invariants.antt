use Rattle.std.proofs.Common.{◌≡◌, drop, find}
use Rattle.helix_command.specs.Given.{gives}
use Rattle.helix_command.proofs.given.value_given.Given as goal

abbrev pub invariant-loop-group : goal.invariant-loop-group
invariant-loop-group l =
    find (λ group. gives l.option group) (drop l.group-index l.groups) ≡ find (λ group. gives l.option group) l.groups
