use Rattle.std.proofs.Common.{arith, subst, sym, ◌^◌, refl, ℕ}
use Rattle.helix_json.specs.Numbers.{digits_value}
use Rattle.helix_json.specs.Inner.Pieces.{IsReduced, Unreachable}
use Rattle.helix_json.proofs.Decimal.{unreachable_digits}
use Rattle.helix_json.specs.Inner.DecimalLaws.{from-append}
use Rattle.helix_json.proofs.Options.{some_map, none_map}
use Rattle.helix_json.proofs.units.reduced_digits.Goals as goal

zero_reduced : IsReduced 0 0 0
zero_reduced = record { is = refl; no_zero = λ some. absurd (some refl) }

pub returns-in_default-clause-none : goal.returns-in_default-clause-none
returns-in_default-clause-none c =
    subst (Unreachable (10 ^ 35)) (sym (from-append 0 c.args.whole.now c.args.fraction.now))
    (unreachable_digits _ _ c.args.fraction.now c.requires.fraction (c.in_default.ensures.none 0 zero_reduced))

pub returns-clause-some : goal.returns-clause-some
returns-clause-some c = some_map _ _ c.push_digits-2.result (λ all h. (
  h.0,
  omega (arith, h.1, c.in-Some.ensures.some.1),
  let P : ℕ → Type 0 = λ v. IsReduced v all.number all.zeros in
      subst P (sym (from-append 0 c.args.whole.now c.args.fraction.now))
      (h.2 (digits_value c.args.whole.now) (c.in-Some.ensures.some.2 0 zero_reduced)),
)) c.push_digits-2.ensures.some

pub returns-clause-none : goal.returns-clause-none
returns-clause-none c = none_map _ _ c.push_digits-2.result (λ h.
    subst (Unreachable (10 ^ 35)) (sym (from-append 0 c.args.whole.now c.args.fraction.now))
    (h (digits_value c.args.whole.now) (c.in-Some.ensures.some.2 0 zero_reduced))) c.push_digits-2.ensures.none
