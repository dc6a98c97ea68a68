use Rattle.std.proofs.Common.{◌≡◌, ◌+◌, ◌++◌, false, drop}
use Rattle.helix_command.specs.Groups.{groups_from}
use Rattle.helix_command.proofs.group.groups_of.Given as goal

abbrev pub invariant-loop-index : goal.invariant-loop-index
invariant-loop-index l =
    l.groups ++ groups_from (l.index + 1) l.is_value (drop l.index l.words) ≡ groups_from 1 false l.words
