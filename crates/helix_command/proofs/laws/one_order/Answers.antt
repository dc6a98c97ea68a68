use Rattle.helix_command.proofs.Exclusion.{one_order}
use Rattle.helix_command.proofs.laws.one_order.Goals as goal

pub returns : goal.returns
returns c = one_order
