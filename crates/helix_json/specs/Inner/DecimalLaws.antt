-- Digits, and numbers times powers of ten: lemmas for this crate and for those above that read and write numbers.
use Rattle.std.proofs.Common.{◌≡◌, ℕ, IsTrue, ◌+◌, ◌*◌, ◌-◌, ◌^◌, ◌<◌, ◌≤◌, zero, suc, List, [], ◌∷◌, ◌++◌, length, get_or, take, mul_assoc, ◌/◌, refl, sym, ◌∙◌, ap, arith}
use Rattle.std.proofs.lemmas.List.{take_more}
use Rattle.std.proofs.lemmas.Nat.{pow-add}
use Rattle.std.proofs.Math.Nat.{pow-suc, mul-div_cancel}
use Rattle.helix_json.specs.Numbers.{digits_from}
use Rattle.helix_base.specs.Digits.{is_digit, AreDigits}
use Rattle.helix_base.specs.Inner.DigitLaws.{digits_push, bounds_at}

pub digits_more : (cs : List ℕ) (i : ℕ) → i < length cs → AreDigits (take i cs) → IsTrue (is_digit (get_or cs i 0))
    → AreDigits (take (i + 1) cs)
digits_more cs i within all here = rw (take_more cs i 0 within) (digits_push (take i cs) (get_or cs i 0) all here)

pub from-append : (n : ℕ) (xs ys : List ℕ) → digits_from n (xs ++ ys) ≡ digits_from (digits_from n xs) ys
from-append n [] ys = refl
from-append n (x ∷ xs) ys = from-append (n * 10 + (x - 48)) xs ys

pub from-more : (n : ℕ) (cs : List ℕ) (i : ℕ) → i < length cs
    → digits_from n (take (i + 1) cs) ≡ digits_from n (take i cs) * 10 + (get_or cs i 0 - 48)
from-more n cs i within = rw (take_more cs i 0 within) (from-append n (take i cs) (get_or cs i 0 ∷ []))

-- for a loop over digits
pub ruleset digit_steps = (bounds_at, from-more)

-- powers of ten
pub pow_more : (k : ℕ) → 10 ^ (k + 1) ≡ 10 ^ k * 10
pow_more k = pow-add 10 k 1

pub some_power : (k : ℕ) → 1 ≤ 10 ^ k
some_power zero = omega arith
some_power (suc k) = rw (pow-suc 10 k) (omega (arith, some_power k))

-- n times 10^k, as k falls by one
pub shift : (n k : ℕ) → n * 10 ^ (k + 1) ≡ (n * 10 ^ k) * 10
shift n k = rw (pow_more k) (sym (mul_assoc n (10 ^ k) 10))

pub cancel : (a b k : ℕ) → a * 10 ^ k ≡ b * 10 ^ k → a ≡ b
cancel a b k e = let p : 0 < 10 ^ k = omega (arith, some_power k) in
    sym (mul-div_cancel a p) ∙ (ap (λ n. n / 10 ^ k) e ∙ mul-div_cancel b p)
