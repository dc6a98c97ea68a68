use Rattle.std.proofs.Common.{arith}
use Rattle.helix_json.specs.Inner.DecimalLaws.{some_power}
use Rattle.helix_texts.proofs.EndZeros.{fits_places, shorter_text, shorter_below, shorter_fewer}
use Rattle.helix_texts.proofs.put.shorter.Goals as goal

pub nonzero_rem-digits : goal.nonzero_rem-digits
nonzero_rem-digits c = omega (arith, some_power c.args.zeros, c.requires.power)

pub overflow_sub-result : goal.overflow_sub-result
overflow_sub-result c = fits_places c.args.zeros c.args.places c.args.digits c.args.power c.requires.power
    c.requires.some c.requires.below c.if-digits-power-eq0.true

pub returns-then-digits-power-eq0-clause-below : goal.returns-then-digits-power-eq0-clause-below
returns-then-digits-power-eq0-clause-below c =
    shorter_below c.args.zeros c.args.places c.args.digits c.args.power c.requires.power c.requires.some
    c.requires.below c.if-digits-power-eq0.true

pub returns-then-digits-power-eq0-clause-fewer : goal.returns-then-digits-power-eq0-clause-fewer
returns-then-digits-power-eq0-clause-fewer c =
    shorter_fewer c.args.zeros c.args.places c.args.digits c.args.power c.requires.power c.requires.some
    c.requires.below c.if-digits-power-eq0.true c.requires.fewer

pub returns-then-digits-power-eq0-clause-text : goal.returns-then-digits-power-eq0-clause-text
returns-then-digits-power-eq0-clause-text c =
    shorter_text c.args.zeros c.args.places c.args.digits c.args.power c.requires.power c.requires.some c.requires.below
    c.if-digits-power-eq0.true
