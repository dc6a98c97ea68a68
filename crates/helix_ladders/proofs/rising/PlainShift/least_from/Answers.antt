use Rattle.std.proofs.Common.{arith}
use Rattle.std.proofs.lemmas.Int.{ints}
use Rattle.helix_ladders.proofs.ShiftedSums.{difference_least}
use Rattle.helix_ladders.proofs.rising.PlainShift.least_from.Goals as goal

pub returns-else-target-self-2-clause-some : goal.returns-else-target-self-2-clause-some
returns-else-target-self-2-clause-some c =
    difference_least c.args.self.now.low c.args.self.now.high c.args.self.now.offset c.args.target _ (grind (
      arith,
      ints,
    )) (grind (arith, ints)) (omega (arith, ints))
