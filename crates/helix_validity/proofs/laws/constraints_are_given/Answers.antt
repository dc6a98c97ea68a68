use Rattle.helix_validity.proofs.Given.{reading_finds}
use Rattle.helix_validity.proofs.laws.constraints_are_given.Goals as goal

pub returns : goal.returns
returns c = λ fields sets v found unbroken filled reads. reading_finds fields sets v unbroken filled found reads
