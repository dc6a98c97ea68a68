use Rattle.helix_validity.proofs.Fitting.{constraints_fit}
use Rattle.helix_validity.proofs.laws.constraints_are_valid.Goals as goal

pub returns : goal.returns
returns c = λ fields sets v cs unbroken filled given. constraints_fit fields sets v cs unbroken filled given
