use Rattle.helix_command.proofs.DecimalNumbers.{numbers_are_decimal}
use Rattle.helix_command.proofs.laws.numbers_are_decimal.Goals as goal

pub returns : goal.returns
returns c = numbers_are_decimal
