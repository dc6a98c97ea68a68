use Rattle.helix_domains.proofs.PositiveSets.{all_in_set, set_passes}
use Rattle.helix_domains.proofs.values.values_of.Goals as goal

pub listed-requires-clause-all : goal.listed-requires-clause-all
listed-requires-clause-all c = all_in_set c.args.atoms.now c.in-Some.index c.index-atoms-index.result
    c.in-Some-members_of.members.now c.in-Some.ensures c.index-atoms-index.is c.in-Some-members_of.ensures c.args.kind

pub listed-requires-clause-chosen : goal.listed-requires-clause-chosen
listed-requires-clause-chosen c = set_passes c.args.atoms.now c.in-Some.index c.index-atoms-index.result
    c.in-Some-members_of.members.now c.in-Some.ensures c.index-atoms-index.is c.in-Some-members_of.ensures
