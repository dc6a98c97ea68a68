-- The next multiple of a step above one.
use Rattle.std.proofs.Common.{◌≡◌, ℕ, suc, ◌+◌, ◌-◌, ◌*◌, ◌/◌, ◌%◌, ◌<◌, ◌≤◌, ℤ, pos, negsuc, ◌+ℤ◌, ◌≤ℤ◌, ◌<ℤ◌, ap, arith, ⊎_elim}
use Rattle.std.specs.Prelude.{unsigned_abs}
use Rattle.std.proofs.lemmas.Bool.{cases_lt}
use Rattle.std.proofs.lemmas.Int.{ints}
use Rattle.std.proofs.Math.Nat.{mul-le-mul_left, mul-mod_right, zero-mod}
use Rattle.helix_ladders.specs.Grids.{IsMultipleOf}

module _ (step : ℕ) (some : 0 < step) where
  -- two multiples are at least a step apart
  apart : (n w : ℕ) → n % step ≡ 0 → w % step ≡ 0 → n < w → n + step ≤ w
  apart n w multiple other below =
      ⊎_elim {A = n / step < w / step} {B = w / step ≤ n / step}
      (λ more. omega (arith, mul-le-mul_left step more))
      (λ less. absurd (omega (arith, mul-le-mul_left step less)))
      (cases_lt (n / step) (w / step))

  multiple_above : (n : ℕ) → n % step ≡ 0 → (n + step) % step ≡ 0
  multiple_above n multiple =
      let e : n + step ≡ step * (n / step + 1) = omega arith in
      rw e (mul-mod_right step (n / step + 1))

  some_times : (n : ℕ) → n % step ≡ 0 → step ≤ n → 0 < n / step
  some_times n multiple within =
      ⊎_elim {A = 0 < n / step} {B = n / step ≤ 0} (λ times. times)
      (λ none. absurd (omega (arith, mul-le-mul_left step none)))
      (cases_lt 0 (n / step))

  multiple_below : (n : ℕ) → n % step ≡ 0 → step ≤ n → (n - step) % step ≡ 0
  multiple_below n multiple within =
      let one : n / step ≡ n / step - 1 + 1 = omega (arith, some_times n multiple within) in
      let whole : step * (n / step) ≡ step * (n / step - 1 + 1) = ap (λ times. step * times) one in
      let e : n - step ≡ step * (n / step - 1) = omega (arith, whole) in
      rw e (mul-mod_right step (n / step - 1))

  at_least : (n : ℕ) → n % step ≡ 0 → 0 < n → step ≤ n
  at_least n multiple more = omega (arith, apart 0 n (zero-mod step) multiple more)

  -- a step above a multiple is the next one
  pub next_is_multiple : (value : ℤ) → IsMultipleOf step value → IsMultipleOf step (value +ℤ pos step)
  next_is_multiple (pos n) multiple = multiple_above n multiple
  next_is_multiple (negsuc n) multiple =
      let size : unsigned_abs (negsuc n +ℤ pos step) ≡ suc n - step = omega (
        arith,
        ints,
        at_least (suc n) multiple (omega arith),
      ) in
      rw size (multiple_below (suc n) multiple (at_least (suc n) multiple (omega arith)))

  pub next_is_least : (value v : ℤ) → IsMultipleOf step value → IsMultipleOf step v → value <ℤ v
      → (value +ℤ pos step) ≤ℤ v
  next_is_least (pos n) (pos w) multiple other below =
      omega (arith, ints, apart n w multiple other (omega (arith, ints)))
  next_is_least (pos n) (negsuc w) multiple other below = absurd (omega (arith, ints))
  next_is_least (negsuc n) (pos w) multiple other below = omega (arith, ints, at_least (suc n) multiple (omega arith))
  next_is_least (negsuc n) (negsuc w) multiple other below =
      omega (arith, ints, apart (suc w) (suc n) other multiple (omega (arith, ints)))
