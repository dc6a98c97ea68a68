use Rattle.helix_command.proofs.Exclusion.{order_without_fault}
use Rattle.helix_command.proofs.laws.order_without_fault.Goals as goal

pub returns : goal.returns
returns c = order_without_fault
