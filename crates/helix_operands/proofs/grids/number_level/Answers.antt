use Rattle.std.proofs.Common.{arith}
use Rattle.std.proofs.lemmas.Int.{ints}
use Rattle.helix_operands.proofs.Given.{level_read}
use Rattle.helix_operands.proofs.grids.number_level.Goals as goal

pub returns-in-Some : goal.returns-in-Some
returns-in-Some c = level_read c.args.json.now c.in-Some.units _ c.level_of.result c.in-Some.ensures.some
    (omega (arith, ints)) c.level_of.ensures.some c.level_of.ensures.none
