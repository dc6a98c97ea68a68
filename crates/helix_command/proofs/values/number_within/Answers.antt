use Rattle.std.proofs.Common.{◌≡◌, true, sym, arith}
use Rattle.helix_command.specs.Values.{is_numeral}
use Rattle.helix_command.proofs.Numerals.{value_step, too_great}
use Rattle.helix_command.proofs.values.number_within.Goals as goal

pub returns-then-value-most : goal.returns-then-value-most
returns-then-value-most c =
    let is : is_numeral c.args.text.now ≡ true = cc in
    let step = value_step c.args.text.now c.loop-code.code-index c.loop-code.value is c.loop-code-test.true
    c.loop-code.invariant.0 in
    sym (too_great c.args.most c.args.text.now c.loop-code.code-index _ step (omega arith))
