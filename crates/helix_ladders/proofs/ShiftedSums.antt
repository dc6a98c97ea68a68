-- The least number whose sum with an offset reaches a target.
use Rattle.std.proofs.Common.{◌≡◌, ℤ, ◌+ℤ◌, ◌-ℤ◌, ◌<ℤ◌, ◌≤ℤ◌, arith}
use Rattle.std.proofs.lemmas.Int.{ints}
use Rattle.helix_ladders.specs.Rising.{IsShiftedTo}
use Rattle.helix_ladders.specs.Scale.{IsLeast}

pub difference_least : (low high offset target r : ℤ) → (low +ℤ offset) <ℤ target → target ≤ℤ (high +ℤ offset)
    → r ≡ target -ℤ offset
    → IsLeast (IsShiftedTo low high (λ v. v +ℤ offset) target) r
difference_least low high offset target r above within is = record {
  has = record { from_low = omega (arith, ints); to_high = omega (arith, ints); reached = omega (arith, ints) };
  least = λ w h. least_of w h.reached;
}
  where
    least_of : (w : ℤ) → target ≤ℤ (w +ℤ offset) → r ≤ℤ w
    least_of w reached = omega (arith, ints)
