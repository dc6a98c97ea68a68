use Rattle.helix_operands.specs.UniqueLaws.{one_test}
use Rattle.helix_operands.proofs.laws.one_test.Goals as goal

pub returns : goal.returns
returns c = one_test
