use Rattle.std.proofs.Common.{◌≡◌, ◌/◌, ◌^◌, ◌∙◌, nat_abs, ap, arith}
use Rattle.std.proofs.lemmas.Int.{ints}
use mir.Val.{to_z, of_z}
use mir.Syntax.{w128}
use Rattle.helix_references.proofs.WholeNumbers.{no_whole, within, beyond}
use Rattle.helix_references.proofs.whole.whole_of.Goals as goal

pub returns-then-not-is_whole : goal.returns-then-not-is_whole
returns-then-not-is_whole c = no_whole c.codes.result.now c.args.text.now c.digits_of-digits.result.whole.now
    c.digits_of-digits.result.fraction.now c.digits_of-digits.result.exponent.now c.digits_of-digits.result.negative
    c.digits_of-digits.result.lowers c.codes.ensures.value c.digits_of-digits.ensures.units c.is_whole.result
    c.is_whole.ensures c.if-not-is_whole.true

pub returns-in-Some : goal.returns-in-Some
returns-in-Some c = let same : to_z w128 (of_z w128 c.in-Some.units) ≡ c.in-Some.units = omega (arith, ints) in
    within c.codes.result.now c.args.text.now c.digits_of-digits.result.whole.now
    c.digits_of-digits.result.fraction.now c.digits_of-digits.result.exponent.now c.digits_of-digits.result.negative
    c.digits_of-digits.result.lowers c.codes.ensures.value c.digits_of-digits.ensures.units c.is_whole.result
    c.is_whole.ensures c.if-not-is_whole.false c.in-Some.units
    (to_z w128 (of_z w128 c.with_sign.result)) (c.unsigned_abs.result / 10 ^ 15) c.in-Some.ensures.some.0
    c.in-Some.ensures.some.1
    (ap (λ s. s / 10 ^ 15) (c.unsigned_abs.ensures.value ∙ ap nat_abs same))
    (omega (arith, ints) ∙ c.with_sign.ensures)

pub returns-in-None : goal.returns-in-None
returns-in-None c = beyond c.codes.result.now c.args.text.now c.digits_of-digits.result.whole.now
    c.digits_of-digits.result.fraction.now c.digits_of-digits.result.exponent.now c.digits_of-digits.result.negative
    c.digits_of-digits.result.lowers c.codes.ensures.value c.digits_of-digits.ensures.units c.is_whole.result
    c.is_whole.ensures c.if-not-is_whole.false c.in-None.ensures.none
