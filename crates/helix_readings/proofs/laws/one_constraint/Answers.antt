use Rattle.helix_readings.specs.UniqueLaws.{one_constraint}
use Rattle.helix_readings.proofs.laws.one_constraint.Goals as goal

pub returns : goal.returns
returns c = λ fields sets place v one other first second. one_constraint fields sets place v one other first second
