use Rattle.helix_operands.specs.FitLaws.{test_fits}
use Rattle.helix_operands.proofs.laws.tests_are_for_their_kind.Goals as goal

pub returns : goal.returns
returns c = test_fits
