use Rattle.std.proofs.Common.{◌≡◌, true, get_or, refl, sym, arith}
use Rattle.helix_base.specs.Digits.{is_digit}
use Rattle.helix_base.specs.Inner.DigitLaws.{digit_bounds}
use Rattle.helix_texts.proofs.DecimalTexts.{last_digits-zero}
use Rattle.helix_texts.proofs.ReadMoments.{digit_after, number_small, no_number}
use Rattle.helix_texts.proofs.moments.number_of.Goals as goal

pub loop-code-init : goal.loop-code-init
loop-code-init c = record { digits = sym (last_digits-zero 0); small = omega arith }

pub loop-code-preserved : goal.loop-code-preserved
loop-code-preserved c =
    let is : is_digit (get_or c.args.digits.now c.loop-code.code-index 0) ≡ true = cc in
    let digit = digit_bounds _ is in
    record {
      digits = digit_after c.args.digits.now c.loop-code.code-index c.loop-code.number
          (get_or c.args.digits.now c.loop-code.code-index 0) c.loop-code.invariant.digits c.loop-code-test.true refl
          digit.0 digit.1;
      small = number_small c.loop-code.code-index c.loop-code.number (get_or c.args.digits.now c.loop-code.code-index 0)
          c.loop-code.invariant.small digit.1;
    }

pub returns-then-not-is_digit-clause-none : goal.returns-then-not-is_digit-clause-none
returns-then-not-is_digit-clause-none c =
    λ n. no_number c.args.digits.now c.loop-code.code-index n c.loop-code-test.true (λ digit. cc)
