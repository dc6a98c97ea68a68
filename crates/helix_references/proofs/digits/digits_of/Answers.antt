use Rattle.helix_references.proofs.NumberParts.{fraction_digits, exponent_digits, units_in}
use Rattle.helix_references.proofs.digits.digits_of.Goals as goal

pub returns-clause-fraction : goal.returns-clause-fraction
returns-clause-fraction c = fraction_digits
    c.args.codes.now c.split_sign-negative.result.1.now c.split_digits.result.0.now
    c.split_digits.result.1.now c.split_fraction.result.0.now c.split_fraction.result.1.now
    c.split_exponent-lowers.result.1.now c.split_sign-negative.result.0 c.split_exponent-lowers.result.0
    c.split_sign-negative.ensures c.split_digits.ensures.whole c.split_digits.ensures.digits
    c.split_digits.ensures.stops c.split_fraction.ensures c.split_exponent-lowers.ensures c.requires

pub returns-clause-exponent : goal.returns-clause-exponent
returns-clause-exponent c = exponent_digits
    c.args.codes.now c.split_sign-negative.result.1.now c.split_digits.result.0.now
    c.split_digits.result.1.now c.split_fraction.result.0.now c.split_fraction.result.1.now
    c.split_exponent-lowers.result.1.now c.split_sign-negative.result.0 c.split_exponent-lowers.result.0
    c.split_sign-negative.ensures c.split_digits.ensures.whole c.split_digits.ensures.digits
    c.split_digits.ensures.stops c.split_fraction.ensures c.split_exponent-lowers.ensures c.requires

pub returns-clause-units : goal.returns-clause-units
returns-clause-units c = units_in
    c.args.codes.now c.split_sign-negative.result.1.now c.split_digits.result.0.now
    c.split_digits.result.1.now c.split_fraction.result.0.now c.split_fraction.result.1.now
    c.split_exponent-lowers.result.1.now c.split_sign-negative.result.0 c.split_exponent-lowers.result.0
    c.split_sign-negative.ensures c.split_digits.ensures.whole c.split_digits.ensures.digits
    c.split_digits.ensures.stops c.split_fraction.ensures c.split_exponent-lowers.ensures c.requires
