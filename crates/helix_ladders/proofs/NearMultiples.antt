-- The multiples next to a number.
use Rattle.std.proofs.Common.{◌≡◌, ℕ, suc, ◌+◌, ◌-◌, ◌*◌, ◌/◌, ◌%◌, ◌<◌, ◌≤◌, ℤ, pos, negsuc, ◌+ℤ◌, ◌-ℤ◌, ◌≤ℤ◌, ◌<ℤ◌, arith}
use Rattle.std.proofs.Common.{⊎_elim}
use borrow.Author.Differences.{up, down}
use Rattle.std.specs.Prelude.{unsigned_abs}
use Rattle.std.proofs.lemmas.Bool.{cases_lt}
use Rattle.std.proofs.lemmas.Int.{ints}
use Rattle.std.proofs.Math.Nat.{mul-le-mul_left, mul-mod_right}
use Rattle.helix_ladders.specs.Grids.{IsMultipleOf}
use Rattle.helix_ladders.specs.Scale.{IsLeast, IsGreatest}

-- the size of a number is the part of it that isn't 0
pub size_is : (z : ℤ) → unsigned_abs z ≡ up z + down z
size_is (pos n) = omega (arith, ints)
size_is (negsuc n) = omega (arith, ints)

module _ (step number : ℕ) (some : 0 < step) where
  -- without its remainder a number is a multiple
  pub multiple_below : (number - number % step) % step ≡ 0
  multiple_below =
      let e : number - number % step ≡ step * (number / step) = omega arith in
      rw e (mul-mod_right step (number / step))

  -- the greatest of those up to it
  pub greatest_below : (w : ℕ) → w % step ≡ 0 → w ≤ number → w ≤ number - number % step
  greatest_below w multiple below =
      ⊎_elim {A = number / step < w / step} {B = w / step ≤ number / step}
      (λ more. absurd (omega (arith, mul-le-mul_left step more)))
      (λ less. omega (arith, mul-le-mul_left step less))
      (cases_lt (number / step) (w / step))

  -- one step more is the next one
  pub multiple_above : (number - number % step + step) % step ≡ 0
  multiple_above =
      let e : number - number % step + step ≡ step * (number / step + 1) = omega arith in
      rw e (mul-mod_right step (number / step + 1))

  pub least_above : 0 < number % step → (w : ℕ) → w % step ≡ 0 → number ≤ w → number - number % step + step ≤ w
  least_above past w multiple above =
      ⊎_elim {A = number / step < w / step} {B = w / step ≤ number / step}
      (λ more. omega (arith, mul-le-mul_left step more))
      (λ less. absurd (omega (arith, mul-le-mul_left step less)))
      (cases_lt (number / step) (w / step))

-- above a number that isn't negative is the rest of its step
pub least_multiple_above : (step past : ℕ) (bound r : ℤ) → 0 < step → past ≡ unsigned_abs bound % step → 0 < past
    → pos 0 ≤ℤ bound → r ≡ bound +ℤ pos (step - past)
    → IsLeast (λ v. IsMultipleOf step v × (bound ≤ℤ v)) r
least_multiple_above step past (negsuc below) r some is more sign result = absurd (omega (arith, ints))
least_multiple_above step past (pos number) r some is more sign result =
    let inside : number % step < step = omega arith in
    let size : r ≡ pos (number - number % step + step) = omega (arith, ints) in
    rw size
    (record {
      has = (multiple_above step number some, omega (arith, ints));
      least = λ w h. above w h.0 h.1;
    })
  where
    above : (w : ℤ) → IsMultipleOf step w → pos number ≤ℤ w → pos (number - number % step + step) ≤ℤ w
    above (pos w) multiple reached = omega (
      arith,
      ints,
      least_above step number some (omega arith) w multiple (omega (arith, ints)),
    )
    above (negsuc w) multiple reached = absurd (omega (arith, ints))

-- and above a negative one its remainder
pub least_multiple_towards_zero : (step past : ℕ) (bound r : ℤ) → 0 < step → past ≡ unsigned_abs bound % step
    → bound <ℤ pos 0 → r ≡ bound +ℤ pos past
    → IsLeast (λ v. IsMultipleOf step v × (bound ≤ℤ v)) r
least_multiple_towards_zero step past (pos number) r some is sign result = absurd (omega (arith, ints))
least_multiple_towards_zero step past (negsuc below) r some is sign result =
    let inside : suc below % step ≤ suc below = omega arith in
    let size : unsigned_abs r ≡ suc below - suc below % step = omega (arith, ints) in
    record {
      has = (rw size (multiple_below step (suc below) some), omega (arith, ints));
      least = λ w h. towards_zero w h.0 h.1;
    }
  where
    towards_zero : (w : ℤ) → IsMultipleOf step w → negsuc below ≤ℤ w → r ≤ℤ w
    towards_zero (pos w) multiple reached = omega (arith, ints)
    towards_zero (negsuc w) multiple reached =
        omega (arith, ints, greatest_below step (suc below) some (suc w) multiple (omega (arith, ints)))

-- below a number that isn't negative lies its remainder
pub greatest_multiple_towards_zero : (step past : ℕ) (bound r : ℤ) → 0 < step → past ≡ unsigned_abs bound % step
    → pos 0 ≤ℤ bound → r ≡ bound -ℤ pos past
    → IsGreatest (λ v. IsMultipleOf step v × (v ≤ℤ bound)) r
greatest_multiple_towards_zero step past (negsuc below) r some is sign result = absurd (omega (arith, ints))
greatest_multiple_towards_zero step past (pos number) r some is sign result =
    let inside : number % step ≤ number = omega arith in
    let size : r ≡ pos (number - number % step) = omega (arith, ints) in
    rw size
    (record {
      has = (multiple_below step number some, omega (arith, ints));
      greatest = λ w h. towards_zero w h.0 h.1;
    })
  where
    towards_zero : (w : ℤ) → IsMultipleOf step w → w ≤ℤ pos number → w ≤ℤ pos (number - number % step)
    towards_zero (pos w) multiple within = omega (
      arith,
      ints,
      greatest_below step number some w multiple (omega (arith, ints)),
    )
    towards_zero (negsuc w) multiple within = omega (arith, ints)

-- and below a negative one the rest of its step
pub greatest_multiple_below : (step past : ℕ) (bound r : ℤ) → 0 < step → past ≡ unsigned_abs bound % step → 0 < past
    → bound <ℤ pos 0 → r ≡ bound -ℤ pos (step - past)
    → IsGreatest (λ v. IsMultipleOf step v × (v ≤ℤ bound)) r
greatest_multiple_below step past (pos number) r some is more sign result = absurd (omega (arith, ints))
greatest_multiple_below step past (negsuc below) r some is more sign result =
    let inside : suc below % step < step = omega arith in
    let size : unsigned_abs r ≡ suc below - suc below % step + step = omega (arith, ints) in
    record {
      has = (rw size (multiple_above step (suc below) some), omega (arith, ints));
      greatest = λ w h. down_to w h.0 h.1;
    }
  where
    down_to : (w : ℤ) → IsMultipleOf step w → w ≤ℤ negsuc below → w ≤ℤ r
    down_to (pos w) multiple within = omega (arith, ints)
    down_to (negsuc w) multiple within = omega (
      arith,
      ints,
      least_above step (suc below) some (omega arith) (suc w) multiple (omega (arith, ints)),
    )
