use Rattle.helix_domains.proofs.OnLines.{at_none, after_none}
use Rattle.helix_domains.proofs.line.first_units.Goals as goal

pub returns-in-At-clause-none : goal.returns-in-At-clause-none
returns-in-At-clause-none c = at_none c.args.line c.args.mark c.in-At.bound c.units_on.result c.in-At.is c.requires
    c.units_on.ensures.none

pub returns-in-None-clause-none : goal.returns-in-None-clause-none
returns-in-None-clause-none c = after_none c.args.line c.args.mark c.in-After.bound c.in-After.is c.requires
    c.in-None.ensures.none
