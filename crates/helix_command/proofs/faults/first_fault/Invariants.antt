use Rattle.std.proofs.Common.{◌≡◌, [], take, drop}
use Rattle.helix_command.specs.Faults.{fault_after}
use Rattle.helix_command.proofs.faults.first_fault.Given as goal

abbrev pub invariant-loop-index : goal.invariant-loop-index
invariant-loop-index l = fault_after (take l.index l.groups) (drop l.index l.groups) ≡ fault_after [] l.groups
