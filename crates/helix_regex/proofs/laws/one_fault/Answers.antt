use Rattle.helix_regex.proofs.OneFault as one
use Rattle.helix_regex.proofs.laws.one_fault.Goals as goal

pub returns : goal.returns
returns c = one.one_fault
