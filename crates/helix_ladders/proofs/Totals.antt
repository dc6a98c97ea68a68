-- Sums of the first values of a function, and the last number that passes a test.
use Rattle.std.proofs.Common.{◌≡◌, ℕ, zero, suc, ◌+◌, ◌-◌, ◌<◌, ◌≤◌, Bool, true, false, Some, None, refl, subst, ◌∙◌, arith, add-zero}
use Rattle.std.proofs.Common.{⊎_elim}
use Rattle.std.proofs.lemmas.Bool.{cases_lt}
use Rattle.helix_ladders.specs.Calendar.{sum_up_to, last_below}

-- one value more
pub sum_up_to-suc : (f : ℕ → ℕ) (n : ℕ) → sum_up_to f (suc n) ≡ sum_up_to f n + f (suc n)
unfolding sum_up_to
sum_up_to-suc f n = refl

pub sum_up_to-zero : (f : ℕ → ℕ) → sum_up_to f 0 ≡ 0
unfolding sum_up_to
sum_up_to-zero f = refl

-- more values have no smaller sum
pub sum_up_to-more : (f : ℕ → ℕ) (n more : ℕ) → sum_up_to f n ≤ sum_up_to f (n + more)
sum_up_to-more f n zero = rw add-zero (omega arith)
sum_up_to-more f n (suc more) =
    let same : n + suc more ≡ suc (n + more) = omega arith in
    rw same (omega (arith, sum_up_to-suc f (n + more), sum_up_to-more f n more))

pub sum_up_to-le : (f : ℕ → ℕ) (m n : ℕ) → m ≤ n → sum_up_to f m ≤ sum_up_to f n
sum_up_to-le f m n below =
    let same : m + (n - m) ≡ n = omega arith in
    subst (λ k. sum_up_to f m ≤ sum_up_to f k) same (sum_up_to-more f m (n - m))

-- the last one is k: it passes, and none above it does
pub last_below-some : (test : ℕ → Bool) (n k : ℕ) → k < n → test k ≡ true → ((j : ℕ) → k < j → j < n → test j ≡ false)
    → last_below test n ≡ Some k
unfolding last_below
last_below-some test zero k below passes later = absurd (omega arith)
last_below-some test (suc n) k below passes later =
    ⊎_elim {A = k < n} {B = n ≤ k}
    (λ before. rw (later n before (omega arith))
    (last_below-some test n k before passes (λ j above within. later j above (omega arith))))
    (λ not_before. let at : n ≡ k = omega arith in rw (at, passes) refl)
    (cases_lt k n)

-- there is none
pub last_below-none : (test : ℕ → Bool) (n : ℕ) → ((j : ℕ) → j < n → test j ≡ false) → last_below test n ≡ None
unfolding last_below
last_below-none test zero fails = refl
last_below-none test (suc n) fails = rw (fails n (omega arith))
    (last_below-none test n (λ j within. fails j (omega arith)))

-- the same where a loop counts the next value from 1
pub sum_up_to-next : (f : ℕ → ℕ) (n : ℕ) → 1 ≤ n → sum_up_to f (n + 1 - 1) ≡ sum_up_to f (n - 1) + f n
sum_up_to-next f zero from_1 = absurd (omega arith)
sum_up_to-next f (suc n) from_1 =
    let here : suc n + 1 - 1 ≡ suc n = omega arith in
    let before : suc n - 1 ≡ n = omega arith in
    rw (here, before) (sum_up_to-suc f n)

-- where one passes, the last one that does is found
pub record IsLastBelow (test : ℕ → Bool) (n k : ℕ) : Type 0 where
  pub found : last_below test n ≡ Some k
  pub below : k < n
  pub passes : test k ≡ true
  pub last : (j : ℕ) → k < j → j < n → test j ≡ false

-- a test that fails at the end leaves the last one as it was
last_below_more : (test : ℕ → Bool) (n k : ℕ) → test n ≡ false → IsLastBelow test n k → IsLastBelow test (suc n) k
unfolding last_below
last_below_more test n k is rest = record {
  found = (rw is refl) ∙ rest.found;
  below = omega (arith, rest.below);
  passes = rest.passes;
  last = λ j above within.
      ⊎_elim {A = j < n} {B = n ≤ j} (λ inside. rest.last j above inside) (λ end. let same : n ≡ j = omega arith in
      subst (λ i. test i ≡ false) same is) (cases_lt j n);
}

last_below_here : (test : ℕ → Bool) (n : ℕ) → test n ≡ true → IsLastBelow test (suc n) n
unfolding last_below
last_below_here test n is = record {
  found = rw is refl;
  below = omega arith;
  passes = is;
  last = λ j above within. absurd (omega arith);
}

-- one that passes has a last one at it or after it
pub last_below_is : (test : ℕ → Bool) (n first : ℕ) → first < n → test first ≡ true
    → (k : ℕ) × (first ≤ k) × IsLastBelow test n k
last_below_is test zero first below passes = absurd (omega arith)
last_below_is test (suc n) first below passes = here (test n) refl (λ before. last_below_is test n first before passes)
  where
    more : test n ≡ false → (k : ℕ) × (first ≤ k) × IsLastBelow test n k
        → (k : ℕ) × (first ≤ k) × IsLastBelow test (suc n) k
    more is (k, from, rest) = (k, from, last_below_more test n k is rest)

    here : (b : Bool) → test n ≡ b → (first < n → (k : ℕ) × (first ≤ k) × IsLastBelow test n k)
        → (k : ℕ) × (first ≤ k) × IsLastBelow test (suc n) k
    here true is rest = (n, omega arith, last_below_here test n is)
    here false is rest =
        ⊎_elim {A = first < n} {B = n ≤ first}
        (λ before. more is (rest before))
        (λ at. absurd (let same : first ≡ n = omega arith in
        let both : test n ≡ true = subst (λ i. test i ≡ true) same passes in cc))
        (cases_lt first n)
