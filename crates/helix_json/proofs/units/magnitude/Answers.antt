use Rattle.std.proofs.Common.{arith, ◌++◌, length}
use Rattle.helix_json.specs.Numbers.{digits_value}
use Rattle.helix_json.proofs.Decimal.{units_none, units_huge, units_lowered, units_raised}
use Rattle.helix_json.proofs.Options.{some_map, none_map}
use Rattle.helix_json.proofs.units.magnitude.Goals as goal

pub returns-in_default-clause-none : goal.returns-in_default-clause-none
returns-in_default-clause-none c = λ n small.
    units_none _ _ (length c.args.fraction.now) (digits_value c.args.exponent.now) n c.args.lowers
    c.in_default.ensures.none small

pub returns-then-power-eq-HUGE-clause-none : goal.returns-then-power-eq-HUGE-clause-none
returns-then-power-eq-HUGE-clause-none c = λ n small.
    units_huge (digits_value (c.args.whole.now ++ c.args.fraction.now)) c.in-Some.all.number c.in-Some.all.zeros
    (length c.args.fraction.now) (digits_value c.args.exponent.now) n c.args.lowers c.in-Some.ensures.some.2
    (λ e. omega (arith, e)) (omega (arith, c.in-Some.ensures.some.1)) (omega arith) small

pub returns-then-lowers-clause-some : goal.returns-then-lowers-clause-some
returns-then-lowers-clause-some c = some_map _ _ c.placed.result (λ n h. (
  h.0,
  (units_lowered (digits_value (c.args.whole.now ++ c.args.fraction.now)) c.in-Some.all.number c.in-Some.all.zeros
      (length c.args.fraction.now) c.value_up_to_huge-power.result (digits_value c.args.exponent.now) n c.args.lowers
      c.if-lowers.true (omega arith) c.in-Some.ensures.some.2).0 h.1,
)) c.placed.ensures.some

pub returns-then-lowers-clause-none : goal.returns-then-lowers-clause-none
returns-then-lowers-clause-none c = none_map _ _ c.placed.result (λ h n small e. h n small
    ((units_lowered (digits_value (c.args.whole.now ++ c.args.fraction.now)) c.in-Some.all.number c.in-Some.all.zeros
    (length c.args.fraction.now) c.value_up_to_huge-power.result (digits_value c.args.exponent.now) n c.args.lowers
    c.if-lowers.true (omega arith) c.in-Some.ensures.some.2).1 e)) c.placed.ensures.none

pub returns-else-lowers-clause-some : goal.returns-else-lowers-clause-some
returns-else-lowers-clause-some c = some_map _ _ c.placed-else-lowers.result (λ n h. (
  h.0,
  (units_raised (digits_value (c.args.whole.now ++ c.args.fraction.now)) c.in-Some.all.number c.in-Some.all.zeros
      (length c.args.fraction.now) c.value_up_to_huge-power.result (digits_value c.args.exponent.now) n c.args.lowers
      c.if-lowers.false (omega arith) c.in-Some.ensures.some.2).0 h.1,
)) c.placed-else-lowers.ensures.some

pub returns-else-lowers-clause-none : goal.returns-else-lowers-clause-none
returns-else-lowers-clause-none c = none_map _ _ c.placed-else-lowers.result (λ h n small e. h n small
    ((units_raised (digits_value (c.args.whole.now ++ c.args.fraction.now)) c.in-Some.all.number c.in-Some.all.zeros
    (length c.args.fraction.now) c.value_up_to_huge-power.result (digits_value c.args.exponent.now) n c.args.lowers
    c.if-lowers.false (omega arith) c.in-Some.ensures.some.2).1 e)) c.placed-else-lowers.ensures.none
