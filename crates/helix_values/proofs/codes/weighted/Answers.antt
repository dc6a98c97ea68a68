use Rattle.std.proofs.Common.{arith}
use Rattle.helix_values.proofs.Checksums.{weighted_small}
use Rattle.helix_values.proofs.codes.weighted.Goals as goal

pub returns-clause-small : goal.returns-clause-small
returns-clause-small c = omega (arith, weighted_small c.args.index c.value_of.result c.value_of.ensures.small)
