use Rattle.std.proofs.Common.{◌^◌, arith}
use Rattle.helix_references.proofs.Endings.{ends_of, zero_says, divided, multiplied, not_is, is_not}
use Rattle.helix_references.proofs.whole.is_whole.Goals as goal

pub returns-then-not-ending : goal.returns-then-not-ending
returns-then-not-ending c = zero_says c.args.whole.now c.args.fraction.now c.args.exponent.now c.args.lowers
    c.push_digits-ending.result.some c.push_digits-ending.result.zeros
    (ends_of c.args.whole.now c.args.fraction.now c.push_digits.result.some c.push_digits-ending.result.some
    c.push_digits.result.zeros c.push_digits-ending.result.zeros c.push_digits.ensures.ends
    c.push_digits-ending.ensures.ends)
    (not_is c.push_digits-ending.result.some c.if-not-ending.true)

pub returns-then-lowers : goal.returns-then-lowers
returns-then-lowers c = divided c.args.whole.now c.args.fraction.now c.args.exponent.now c.args.lowers
    c.push_digits-ending.result.some c.push_digits-ending.result.zeros
    (ends_of c.args.whole.now c.args.fraction.now c.push_digits.result.some c.push_digits-ending.result.some
    c.push_digits.result.zeros c.push_digits-ending.result.zeros c.push_digits.ensures.ends
    c.push_digits-ending.ensures.ends)
    (is_not c.push_digits-ending.result.some c.if-not-ending.false) c.value_up_to_huge-power.result (2 ^ 100)
    c.value_up_to_huge-power.ensures (omega arith) c.if-lowers.true

pub returns-else-lowers : goal.returns-else-lowers
returns-else-lowers c = multiplied c.args.whole.now c.args.fraction.now c.args.exponent.now c.args.lowers
    c.push_digits-ending.result.some c.push_digits-ending.result.zeros
    (ends_of c.args.whole.now c.args.fraction.now c.push_digits.result.some c.push_digits-ending.result.some
    c.push_digits.result.zeros c.push_digits-ending.result.zeros c.push_digits.ensures.ends
    c.push_digits-ending.ensures.ends)
    (is_not c.push_digits-ending.result.some c.if-not-ending.false) c.value_up_to_huge-power.result (2 ^ 100)
    c.value_up_to_huge-power.ensures (omega arith) c.if-lowers.false
