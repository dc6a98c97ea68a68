use Rattle.std.proofs.Common.{arith}
use Rattle.helix_json.proofs.Decimal.{unreachable_from}
use Rattle.helix_json.proofs.units.push_digits.Goals as goal

pub returns-in_default-clause-none : goal.returns-in_default-clause-none
returns-in_default-clause-none c = λ value r.
    unreachable_from _ value c.args.digits.now c.loop-digit.digit-index (omega arith) c.requires.digits
    (c.in_default.ensures.none _ (c.loop-digit.invariant.reduced value r))
