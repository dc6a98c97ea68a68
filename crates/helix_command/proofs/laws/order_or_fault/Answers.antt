use Rattle.helix_command.proofs.Exclusion.{order_or_fault}
use Rattle.helix_command.proofs.laws.order_or_fault.Goals as goal

pub returns : goal.returns
returns c = order_or_fault
