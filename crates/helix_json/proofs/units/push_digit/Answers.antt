use Rattle.std.proofs.Common.{arith, ◌≡◌, ◌*◌, ◌+◌, ◌-◌, subst, ℕ}
use Rattle.helix_json.specs.Inner.Pieces.{IsReduced}
use Rattle.helix_json.proofs.Decimal.{reduced_zero, reduced_odd, above_odd}
use Rattle.helix_json.proofs.units.push_digit.Goals as goal

pub returns-else-reduced-eq0-clause-some : goal.returns-else-reduced-eq0-clause-some
returns-else-reduced-eq0-clause-some c = (
  omega arith,
  omega arith,
  λ value r.
      let e : 0 ≡ c.args.digit - 48 = omega arith in
      let P : ℕ → Type 0 = λ d. IsReduced (value * 10 + d) c.args.reduced.number (c.args.reduced.zeros + 1) in
      subst P e (reduced_zero value _ _ r),
)

pub returns-in_default-clause-none : goal.returns-in_default-clause-none
returns-in_default-clause-none c = λ value r.
    above_odd _ value c.args.reduced.number c.args.reduced.zeros (c.args.digit - 48) r (omega (
      arith,
      c.in_default.ensures.above,
    )) (omega arith) (omega arith)

pub returns-then-shifted-added-gt-MAX_UNITS-clause-none : goal.returns-then-shifted-added-gt-MAX_UNITS-clause-none
returns-then-shifted-added-gt-MAX_UNITS-clause-none c = λ value r.
    above_odd _ value c.args.reduced.number c.args.reduced.zeros (c.args.digit - 48) r (omega (
      arith,
      c.in-Some.ensures.within,
    )) (omega arith) (omega arith)

pub returns-clause-some : goal.returns-clause-some
returns-clause-some c = (
  omega arith,
  omega arith,
  λ value r.
      reduced_odd value c.args.reduced.number c.args.reduced.zeros c.in-Some.shifted (c.args.digit - 48) r
      c.in-Some.ensures.within.0 (omega arith) (omega arith),
)
