use Rattle.helix_operands.specs.UnbrokenLaws.{reading_finds}
use Rattle.helix_operands.proofs.laws.unbroken_operands_give_tests.Goals as goal

pub returns : goal.returns
returns c = reading_finds
