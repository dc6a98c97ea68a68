use Rattle.helix_ladders.proofs.PowersOfTen.{five_at, five_small}
use Rattle.helix_ladders.proofs.decades.power_of_five.Goals as goal

pub returns-clause-value : goal.returns-clause-value
returns-clause-value c = five_at c.args.level c.requires

pub returns-clause-small : goal.returns-clause-small
returns-clause-small c = five_small c.args.level c.requires
