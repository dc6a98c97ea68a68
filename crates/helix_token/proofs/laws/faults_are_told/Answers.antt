use Rattle.helix_token.proofs.Faults.{fault_told}
use Rattle.helix_token.proofs.laws.faults_are_told.Goals as goal

pub returns : goal.returns
returns c = fault_told
