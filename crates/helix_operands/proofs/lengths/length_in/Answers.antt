use Rattle.std.proofs.Common.{arith}
use Rattle.std.proofs.lemmas.Int.{ints}
use Rattle.helix_operands.proofs.Given.{length_read}
use Rattle.helix_operands.proofs.lengths.length_in.Goals as goal

pub returns-in-Some : goal.returns-in-Some
returns-in-Some c = length_read c.args.json.now c.in-Some.units _ c.length_of.result c.in-Some.ensures.some
    (omega (arith, ints)) c.length_of.ensures.some c.length_of.ensures.none
