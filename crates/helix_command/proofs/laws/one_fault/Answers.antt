use Rattle.helix_command.proofs.Exclusion.{one_fault}
use Rattle.helix_command.proofs.laws.one_fault.Goals as goal

pub returns : goal.returns
returns c = one_fault
