use Rattle.helix_validity.proofs.Breaching.{unbroken}
use Rattle.helix_validity.proofs.laws.no_breach.Goals as goal

pub returns : goal.returns
returns c = λ fields v first rest. unbroken fields v first rest
