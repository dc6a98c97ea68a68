use Rattle.helix_validity.proofs.Whole.{valid_profile}
use Rattle.helix_validity.proofs.laws.profile_is_valid.Goals as goal

pub returns : goal.returns
returns c = λ alphabet sets v cs keys unbroken filled given.
    valid_profile alphabet sets v cs keys unbroken filled given
