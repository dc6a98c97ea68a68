use Rattle.std.proofs.Common.{arith, ◌∙◌}
use Rattle.std.proofs.lemmas.Int.{ints}
use mir.Val.{to_z, of_z}
use mir.Syntax.{w128}
use Rattle.helix_json.proofs.Parts.{fraction_digits, exponent_digits, units_in, no_units_in, size_within}
use Rattle.helix_json.proofs.units.number_units.Goals as goal

pub magnitude-requires-clause-fraction : goal.magnitude-requires-clause-fraction
magnitude-requires-clause-fraction c = fraction_digits
    c.args.text.now c.codes.result.now c.split_sign-negative.result.1.now c.split_digits.result.0.now
    c.split_digits.result.1.now
    c.split_fraction.result.0.now c.split_fraction.result.1.now c.split_exponent-lowers.result.1.now
    c.split_sign-negative.result.0 c.split_exponent-lowers.result.0 c.codes.ensures.value c.split_sign-negative.ensures
    c.split_digits.ensures.whole c.split_digits.ensures.digits c.split_digits.ensures.stops c.split_fraction.ensures
    c.split_exponent-lowers.ensures
    c.requires.0 c.requires.1

pub magnitude-requires-clause-exponent : goal.magnitude-requires-clause-exponent
magnitude-requires-clause-exponent c = exponent_digits
    c.args.text.now c.codes.result.now c.split_sign-negative.result.1.now c.split_digits.result.0.now
    c.split_digits.result.1.now
    c.split_fraction.result.0.now c.split_fraction.result.1.now c.split_exponent-lowers.result.1.now
    c.split_sign-negative.result.0 c.split_exponent-lowers.result.0 c.codes.ensures.value c.split_sign-negative.ensures
    c.split_digits.ensures.whole c.split_digits.ensures.digits c.split_digits.ensures.stops c.split_fraction.ensures
    c.split_exponent-lowers.ensures
    c.requires.0 c.requires.1

pub returns-in_default-clause-none : goal.returns-in_default-clause-none
returns-in_default-clause-none c = no_units_in
    c.args.text.now c.codes.result.now c.split_sign-negative.result.1.now c.split_digits.result.0.now
    c.split_digits.result.1.now
    c.split_fraction.result.0.now c.split_fraction.result.1.now c.split_exponent-lowers.result.1.now
    c.split_sign-negative.result.0 c.split_exponent-lowers.result.0 c.codes.ensures.value c.split_sign-negative.ensures
    c.split_digits.ensures.whole c.split_digits.ensures.digits c.split_digits.ensures.stops c.split_fraction.ensures
    c.split_exponent-lowers.ensures
    _ c.in_default.ensures.none

pub returns-clause-some : goal.returns-clause-some
returns-clause-some c = (
  units_in
      c.args.text.now c.codes.result.now c.split_sign-negative.result.1.now c.split_digits.result.0.now
      c.split_digits.result.1.now
      c.split_fraction.result.0.now c.split_fraction.result.1.now c.split_exponent-lowers.result.1.now
      c.split_sign-negative.result.0 c.split_exponent-lowers.result.0 c.codes.ensures.value
      c.split_sign-negative.ensures
      c.split_digits.ensures.whole c.split_digits.ensures.digits c.split_digits.ensures.stops c.split_fraction.ensures
      c.split_exponent-lowers.ensures
      _ c.in-Some.units c.in-Some.ensures.some.1 (omega (arith, ints) ∙ c.with_sign.ensures.value) c.requires,
  size_within (to_z w128 (of_z w128 c.with_sign.result)) c.with_sign.result _ _ (omega (arith, ints))
      c.with_sign.ensures.size c.in-Some.ensures.some.0,
)
