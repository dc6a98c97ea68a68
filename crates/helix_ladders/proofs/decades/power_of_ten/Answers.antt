use Rattle.helix_ladders.proofs.PowersOfTen.{power_at}
use Rattle.helix_ladders.proofs.decades.power_of_ten.Goals as goal

pub returns-clause-value : goal.returns-clause-value
returns-clause-value c = power_at c.args.level c.requires
