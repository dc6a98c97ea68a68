use Rattle.helix_partition.proofs.GroupsMade.{few_labels, few_firsts, firsts_there, groups_are, groups_part}
use Rattle.helix_partition.proofs.groups.partitions.Goals as goal

pub groups-requires-clause-small : goal.groups-requires-clause-small
groups-requires-clause-small c = few_labels c.args.profile.now c.labels_of.ensures.valid
    c.in_ok-found.found.labels.items c.in_ok-found.ensures.labels

pub groups-requires-clause-constraints : goal.groups-requires-clause-constraints
groups-requires-clause-constraints c = few_firsts c.args.profile.now c.labels_of.ensures.valid
    c.in_ok-found.found.firsts c.in_ok-found.ensures.firsts

pub groups-requires-clause-firsts : goal.groups-requires-clause-firsts
groups-requires-clause-firsts c = firsts_there c.args.profile.now c.labels_of.ensures.valid
    c.in_ok-found.found.labels.items c.in_ok-found.ensures.labels c.in_ok-found.found.firsts
    c.in_ok-found.ensures.firsts

pub returns-clause-groups : goal.returns-clause-groups
returns-clause-groups c = groups_are c.args.profile.now c.labels_of.ensures.valid c.in_ok-found.found.labels.items
    c.in_ok-found.ensures.labels c.in_ok-found.found.firsts c.in_ok-found.ensures.firsts c.groups.result
    c.groups.ensures

pub returns-clause-partition : goal.returns-clause-partition
returns-clause-partition c = groups_part c.args.profile.now c.labels_of.ensures.valid
    c.in_ok-found.found.labels.items c.in_ok-found.ensures.labels c.in_ok-found.found.firsts
    c.in_ok-found.ensures.firsts c.groups.result c.groups.ensures
