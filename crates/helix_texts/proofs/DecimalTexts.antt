-- Digits and their values: numerals, numbers of a fixed width, and digits without the zeros at their end.
use Rattle.std.proofs.Common.{◌≡◌, ◌≢◌, ℕ, zero, suc, ◌+◌, ◌-◌, ◌*◌, ◌/◌, ◌%◌, ◌^◌, ◌<◌, ◌≤◌, List, [], ◌∷◌, ◌++◌, length, Bool, true, false, ◌==◌, ◌⊎◌, inl, inr, decimal, refl, sym, ap, ◌∙◌, subst, arith}
use Rattle.std.proofs.lemmas.Bool.Decides.{nat_tests}
use Rattle.std.proofs.lemmas.Fmt.{decimal_by_steps_wide}
use Rattle.std.proofs.Math.Arith.{mod-mul}
use Rattle.helix_json.specs.Numbers.{IsWhole, digits_from, digits_value}
use Rattle.helix_base.specs.Digits.{AreDigits}
use Rattle.helix_base.specs.Inner.DigitLaws.{digit_within, digits_push}
use Rattle.helix_json.specs.Inner.DecimalLaws.{from-append, pow_more, some_power}
use Rattle.helix_texts.specs.Texts.{last_digits, before_rest, without_zeros}

-- the digits of a number from 10 on don't begin with 0, and there is one below
abbrev BeginsWell : ℕ → List ℕ → Type 0
BeginsWell n [] = ⊥
BeginsWell n (c ∷ cs) = (0 < n → c ≢ 48) × (n < 10 → cs ≡ [])

record IsNumeralOf (n : ℕ) (ds : List ℕ) : Type 0 where
  digits : AreDigits ds
  value : digits_value ds ≡ n
  begins : BeginsWell n ds

one_digit : (n : ℕ) → n < 10 → IsNumeralOf n ((48 + n) ∷ [])
one_digit n small = record {
  digits = (digit_within (48 + n) (omega arith) (omega arith), tt);
  value = omega arith;
  begins = ((λ some is. omega arith), λ h. refl);
}

begins_more : (n : ℕ) (ds : List ℕ) (c : ℕ) → 10 ≤ n → BeginsWell (n / 10) ds → BeginsWell n (ds ++ c ∷ [])
begins_more n [] c large begins = absurd begins
begins_more n (d ∷ ds) c large begins = ((λ some. begins.0 (omega arith)), λ small. absurd (omega arith))

one_more : (n : ℕ) (ds : List ℕ) → 10 ≤ n → IsNumeralOf (n / 10) ds → IsNumeralOf n (ds ++ (48 + n % 10) ∷ [])
one_more n ds large prefix = record {
  digits = digits_push ds (48 + n % 10) prefix.digits (digit_within (48 + n % 10) (omega arith) (omega arith));
  value = from-append 0 ds ((48 + n % 10) ∷ []) ∙ omega (arith, prefix.value);
  begins = begins_more n ds (48 + n % 10) large prefix.begins;
}

numeral : (n : ℕ) → n < 10 ^ 64 → IsNumeralOf n (decimal n)
numeral n small = decimal_by_steps_wide IsNumeralOf one_digit one_more n small

whole_from : (n : ℕ) (ds : List ℕ) → AreDigits ds → BeginsWell n ds → IsWhole ds
whole_from n [] digits begins = absurd begins
whole_from zero (c ∷ cs) digits begins = (digits.0, digits.1, λ is. begins.1 (omega arith))
whole_from (suc n) (c ∷ cs) digits begins = (digits.0, digits.1, λ is. absurd (begins.0 (omega arith) is))

-- a numeral is the whole part of a number, and its value
pub decimal_whole : (n : ℕ) → n < 10 ^ 64 → IsWhole (decimal n)
decimal_whole n small = whole_from n (decimal n) (numeral n small).digits (numeral n small).begins

pub decimal_value : (n : ℕ) → n < 10 ^ 64 → digits_value (decimal n) ≡ n
decimal_value n small = (numeral n small).value

pub last_digits-zero : (n : ℕ) → last_digits zero n ≡ []
unfolding last_digits
last_digits-zero n = refl

pub last_digits-suc : (width n : ℕ) → last_digits (suc width) n ≡ last_digits width (n / 10) ++ (48 + n % 10) ∷ []
unfolding last_digits
last_digits-suc width n = refl

pub last_digits_are : (width n : ℕ) → AreDigits (last_digits width n)
unfolding last_digits
last_digits_are zero n = tt
last_digits_are (suc width) n = digits_push (last_digits width (n / 10)) (48 + n % 10) (last_digits_are width (n / 10))
    (digit_within (48 + n % 10) (omega arith) (omega arith))

-- the last digits add the remainder to what is before them
pub last_digits-from : (width x n : ℕ) → digits_from x (last_digits width n) ≡ x * 10 ^ width + n % 10 ^ width
unfolding last_digits
last_digits-from zero x n = omega arith
last_digits-from (suc width) x n =
    let split : n % (10 ^ width * 10) ≡ (n / 10 % 10 ^ width) * 10 + n % 10 = mod-mul n (some_power width) (omega arith)
    in
    let power : 10 ^ suc width ≡ 10 ^ width * 10 = ap (λ k. 10 ^ k) (omega arith) ∙ pow_more width in
    from-append x (last_digits width (n / 10)) ((48 + n % 10) ∷ [])
    ∙ (rw power (omega (arith, split, last_digits-from width x (n / 10))))

-- what is at the end of digits is zeros that were left out
pub record LeavesZeros (x : ℕ) (cs left : List ℕ) : Type 0 where
  pub zeros : ℕ
  pub lengths : length cs ≡ length left + zeros
  pub value : digits_from x cs ≡ digits_from x left * 10 ^ zeros

kept_by : (c : ℕ) (b : Bool) → (c == 48) ≡ b → ((c ≡ 48) × (before_rest c [] ≡ [])) ⊎ (before_rest c [] ≡ c ∷ [])
kept_by c true is = inl (grind (arith, nat_tests), rw is refl)
kept_by c false is = inr (rw is refl)

pub kept_cases : (c : ℕ) (left : List ℕ) → ((c ≡ 48) × (left ≡ []) × (before_rest c left ≡ []))
    ⊎ (before_rest c left ≡ c ∷ left)
kept_cases c [] = elim (kept_by c (c == 48) refl) [ inl gone ↦ inl (gone.0, refl, gone.1) | inr stays ↦ inr stays ]
kept_cases c (d ∷ ds) = inr refl

pub without_zeros_are : (cs : List ℕ) → AreDigits cs → AreDigits (without_zeros cs)
without_zeros_are [] digits = tt
without_zeros_are (c ∷ cs) digits =
    elim (kept_cases c (without_zeros cs)) [
      | inl gone ↦ subst AreDigits (sym gone.2) tt
      | inr stays ↦ subst AreDigits (sym stays) (digits.0, without_zeros_are cs digits.1)
    ]

times_ten : (x n zeros : ℕ) → x ≡ n * 10 → x * 10 ^ zeros ≡ n * 10 ^ (zeros + 1)
times_ten x n zeros is = rw (pow_more zeros, is) (omega arith)

leaves_none : (x c : ℕ) (cs : List ℕ) → c ≡ 48 → LeavesZeros (x * 10 + (c - 48)) cs [] → LeavesZeros x (c ∷ cs) []
leaves_none x c cs is rest = record {
  zeros = rest.zeros + 1;
  lengths = omega (arith, rest.lengths);
  value = rest.value ∙ times_ten (x * 10 + (c - 48)) x rest.zeros (omega arith);
}

pub without_zeros-from : (cs : List ℕ) (x : ℕ) → LeavesZeros x cs (without_zeros cs)
without_zeros-from [] x = record { zeros = 0; lengths = refl; value = omega arith }
without_zeros-from (c ∷ cs) x =
    let rest : LeavesZeros (x * 10 + (c - 48)) cs (without_zeros cs) = without_zeros-from cs (x * 10 + (c - 48)) in
    elim (kept_cases c (without_zeros cs)) [
      | inl gone ↦ subst (LeavesZeros x (c ∷ cs)) (sym gone.2)
          (leaves_none x c cs gone.0 (subst (LeavesZeros (x * 10 + (c - 48)) cs) gone.1 rest))
      | inr stays ↦ subst (LeavesZeros x (c ∷ cs)) (sym stays) (record {
        zeros = rest.zeros;
        lengths = omega (arith, rest.lengths);
        value = rest.value;
      })
    ]
