use Rattle.helix_ladders.proofs.PowersOfTen.{small_power_of_two, two_small}
use Rattle.std.proofs.Common.{arith}
use Rattle.helix_ladders.proofs.decades.power_of_two.Goals as goal

pub returns-clause-value : goal.returns-clause-value
returns-clause-value c = small_power_of_two c.args.level c.requires
