use Rattle.std.proofs.Common.{◌+◌, arith}
use Rattle.helix_texts.proofs.DigitPairs.{rest_more, pair_more, last_put, digits_done}
use Rattle.helix_texts.proofs.FixedDigits.{no_digits_yet}
use Rattle.helix_texts.proofs.digits.put_digits.Goals as goal

pub loop-done-init : goal.loop-done-init
loop-done-init c = record {
  within = omega arith;
  rest = omega arith;
  text = no_digits_yet c.args.out.now c.args.number _ _ (omega arith);
}

pub loop-done-preserved : goal.loop-done-preserved
loop-done-preserved c = record {
  within = omega arith;
  rest = rest_more c.args.number c.loop-done.rest c.loop-done.done c.loop-done.invariant.rest;
  text =
      pair_more c.loop-done.out c.args.out.now c.args.number c.loop-done.rest c.loop-done.done
      (c.args.at + c.args.width) _ _ _ c.loop-done.invariant.rest c.loop-done.invariant.text
      (omega arith) (omega arith) (omega arith) (omega arith) (omega arith);
}

pub returns-then-done-width-clause-text : goal.returns-then-done-width-clause-text
returns-then-done-width-clause-text c =
    digits_done c.loop-done.out c.args.out.now c.args.number c.loop-done.done (c.args.at + c.args.width) c.args.at
    c.args.width c.loop-done.invariant.text (omega arith) (omega arith)

pub returns-clause-text : goal.returns-clause-text
returns-clause-text c =
    last_put c.loop-done.out c.args.out.now c.args.number c.loop-done.rest c.loop-done.done (c.args.at + c.args.width)
    c.args.at c.args.width c.loop-done.invariant.rest c.loop-done.invariant.text
    (omega arith) (omega arith) (omega arith)
