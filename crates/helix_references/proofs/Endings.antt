-- Digits and the count at their end, and whole numbers by them.
use Rattle.std.proofs.Common.{◌≡◌, ◌≢◌, ℕ, ◌+◌, ◌*◌, ◌-◌, ◌^◌, ◌%◌, ◌<◌, ◌≤◌, ◌↔◌, inl, inr, min, nat_le, not, Bool, true, false, IsTrue, MatchBool, List, ◌++◌, length, refl, sym, ◌∙◌, ap, subst, arith, mul_assoc}
use Rattle.std.proofs.lemmas.Nat.{pow-add}
use Rattle.std.proofs.lemmas.Bool.{cases_lt, leb-true, le-leb}
use Rattle.helix_json.specs.Numbers.{digits_value, digits_from}
use Rattle.helix_json.specs.Inner.Pieces.{AreUnits}
use Rattle.helix_json.specs.Inner.DecimalLaws.{shift, cancel, from-append}
use Rattle.helix_references.specs.Inner.Wholes.{AreWhole, EndsIn}

-- one digit more
pub zero_more : (value count digit : ℕ) (some : Bool) → digit ≡ 48 → EndsIn value some count
    → EndsIn (value * 10 + (digit - 48)) some (count + 1)
zero_more value count digit some is ending = record {
  number = ending.number;
  is = ap (λ d. value * 10 + (d - 48)) is
      ∙ (plus_zero (value * 10) ∙ (ap (λ v. v * 10) ending.is ∙ sym (shift ending.number count)));
  ends = ending.ends;
}
  where
    plus_zero : (n : ℕ) → n + (48 - 48) ≡ n
    plus_zero n = omega arith

pub digit_more : (value count digit : ℕ) (some : Bool) → digit ≢ 48 → 48 ≤ digit → digit ≤ 57
    → EndsIn value some count → EndsIn (value * 10 + (digit - 48)) true 0
digit_more value count digit some other low high ending = record {
  number = value * 10 + (digit - 48);
  is = times_one (value * 10 + (digit - 48));
  ends = λ is. other (omega (arith, is));
}
  where
    times_one : (n : ℕ) → n ≡ n * 10 ^ 0
    times_one n = omega arith

-- a number with no zero at its end, times a power of ten, is a multiple of no greater power
no_greater : (n k a b : ℕ) → n % 10 ≢ 0 → n * 10 ^ a ≡ k * 10 ^ b → b ≤ a
no_greater n k a b no_zero same = elim (cases_lt a b) [
  | inl less ↦
      let more : ℕ = b - a - 1 in
      let b_is : b ≡ (b - a - 1 + 1) + a = omega arith in
      let split : k * 10 ^ b ≡ (k * 10 ^ (b - a - 1) * 10) * 10 ^ a =
      ap (λ e. k * 10 ^ e) b_is ∙ (ap (λ p. k * p) (pow-add 10 (b - a - 1 + 1) a)
      ∙ (sym (mul_assoc k (10 ^ (b - a - 1 + 1)) (10 ^ a))
      ∙ ap (λ p. p * 10 ^ a) (shift k (b - a - 1)))) in
      let n_is : n ≡ k * 10 ^ (b - a - 1) * 10 = cancel n (k * 10 ^ (b - a - 1) * 10) a (same ∙ split) in
      absurd (no_zero (let w : ℕ = k * 10 ^ (b - a - 1) in
      ap (λ m. m % 10) n_is ∙ times_ten (k * 10 ^ (b - a - 1))))
  | inr not_less ↦ omega arith
]
  where
    times_ten : (w : ℕ) → (w * 10) % 10 ≡ 0
    times_ten w = omega arith

some_smaller : (n a b : ℕ) → b ≤ a → n * 10 ^ a ≡ (n * 10 ^ (a - b)) * 10 ^ b
some_smaller n a b below =
    let a_is : a ≡ (a - b) + b = omega arith in
    ap (λ e. n * 10 ^ e) a_is ∙ (ap (λ p. n * p) (pow-add 10 (a - b) b) ∙ sym (mul_assoc n (10 ^ (a - b)) (10 ^ b)))

swapped : (k a b : ℕ) → (k * a) * b ≡ (k * b) * a
swapped k a b = omega arith

-- the powers of ten on both sides, without those of a unit
module _ (value n count : ℕ) (value_is : value ≡ n * 10 ^ count) (places power k : ℕ) where
  lowered : (n * 10 ^ count ≡ k * 10 ^ (places + power)) ↔ AreUnits value places true power (k * 10 ^ 15)
  lowered =
      let left : value * 10 ^ 15 ≡ (n * 10 ^ count) * 10 ^ 15 = ap (λ v. v * 10 ^ 15) value_is in
      let right : (k * 10 ^ 15) * 10 ^ (places + power) ≡ (k * 10 ^ (places + power)) * 10 ^ 15 =
      swapped k (10 ^ 15) (10 ^ (places + power)) in (
        (λ e. left ∙ (ap (λ v. v * 10 ^ 15) e ∙ sym right)),
        (λ are. cancel (n * 10 ^ count) (k * 10 ^ (places + power)) 15 (sym left ∙ (are ∙ right))),
      )

  raised : (n * 10 ^ (count + power) ≡ k * 10 ^ places) ↔ AreUnits value places false power (k * 10 ^ 15)
  raised =
      let left : value * 10 ^ (15 + power) ≡ (n * 10 ^ (count + power)) * 10 ^ 15 =
      ap (λ v. v * 10 ^ (15 + power)) value_is
      ∙ (ap (λ p. (n * 10 ^ count) * p) (pow-add 10 15 power)
      ∙ (regroup n (10 ^ count) (10 ^ 15) (10 ^ power)
      ∙ ap (λ p. (n * p) * 10 ^ 15) (sym (pow-add 10 count power)))) in
      let right : (k * 10 ^ 15) * 10 ^ places ≡ (k * 10 ^ places) * 10 ^ 15 = swapped k (10 ^ 15) (10 ^ places) in (
        (λ e. left ∙ (ap (λ v. v * 10 ^ 15) e ∙ sym right)),
        (λ are. cancel (n * 10 ^ (count + power)) (k * 10 ^ places) 15 (sym left ∙ (are ∙ right))),
      )
    where
      regroup : (n a b c : ℕ) → (n * a) * (b * c) ≡ (n * (a * c)) * b
      regroup n a b c = omega arith

pub not_is : (b : Bool) → not b ≡ true → b ≡ false
not_is true e = sym e
not_is false e = refl

pub is_not : (b : Bool) → not b ≡ false → b ≡ true
is_not true e = refl
is_not false e = sym e

-- how the digits of a number end
pub ends_of : (whole fraction : List ℕ) (some other : Bool) (count more : ℕ)
    → ((value : ℕ) → EndsIn value false 0 → EndsIn (digits_from value whole) some count)
    → ((value : ℕ) → EndsIn value some count → EndsIn (digits_from value fraction) other more)
    → EndsIn (digits_value (whole ++ fraction)) other more
ends_of whole fraction some other count more first second =
    subst (λ v. EndsIn v other more) (sym (from-append 0 whole fraction))
    (second (digits_from 0 whole) (first 0 (record { number = 0; is = refl; ends = refl })))

zero_units : (value places power : ℕ) (lowers : Bool) → value ≡ 0 → AreUnits value places lowers power (0 * 10 ^ 15)
zero_units value places power true is = ap (λ v. v * 10 ^ 15) is ∙ none (10 ^ 15) (10 ^ (places + power))
  where
    none : (a b : ℕ) → 0 * a ≡ (0 * 10 ^ 15) * b
    none a b = omega arith
zero_units value places power false is = ap (λ v. v * 10 ^ (15 + power)) is ∙ none (10 ^ (15 + power)) (10 ^ places)
  where
    none : (a b : ℕ) → 0 * a ≡ (0 * 10 ^ 15) * b
    none a b = omega arith

module _ (whole fraction exponent : List ℕ) (lowers some : Bool) (count : ℕ)
    (ending : EndsIn (digits_value (whole ++ fraction)) some count) where
  value_is : some ≡ false → digits_value (whole ++ fraction) ≡ 0
  value_is none =
      let zero_is : ending.number ≡ 0 = subst (λ b. MatchBool b (ending.number % 10 ≢ 0) (ending.number ≡ 0)) none
      ending.ends in
      ending.is ∙ ap (λ n. n * 10 ^ count) zero_is ∙ no_times (10 ^ count)
    where
      no_times : (a : ℕ) → 0 * a ≡ 0
      no_times a = omega arith

  -- zero is a whole number
  pub zero_says : some ≡ false → IsTrue true ↔ AreWhole whole fraction lowers exponent
  zero_says none = (
    (λ t. (
      0,
      zero_units (digits_value (whole ++ fraction)) (length fraction) (digits_value exponent) lowers
          (value_is none),
    )),
    (λ h. refl),
  )

  module _ (has_some : some ≡ true) (power huge : ℕ) (power_is : power ≡ min (digits_value exponent) huge) where
    no_zero : ending.number % 10 ≢ 0
    no_zero = subst (λ b. MatchBool b (ending.number % 10 ≢ 0) (ending.number ≡ 0)) has_some ending.ends

    -- an exponent divides: the count have to be enough for it and for the places
    lowers_says : count < huge → (length fraction + power ≤ count) ↔ AreWhole whole fraction true exponent
    lowers_says few = (
      (λ below. (
        ending.number * 10 ^ (count - (length fraction + digits_value exponent)),
        (lowered (digits_value (whole ++ fraction)) ending.number count ending.is (length fraction)
            (digits_value exponent)
            (ending.number * 10 ^ (count - (length fraction + digits_value exponent)))).0
            (some_smaller ending.number count (length fraction + digits_value exponent) (omega arith)),
      )),
      (λ (k, are). let enough : length fraction + digits_value exponent ≤ count =
          no_greater ending.number k count (length fraction + digits_value exponent) no_zero
          ((lowered (digits_value (whole ++ fraction)) ending.number count ending.is (length fraction)
          (digits_value exponent) k).1 are) in omega arith),
    )

    -- it multiplies: the count and it have to be enough for the places
    raises_says : length fraction < huge → (length fraction ≤ count + power) ↔ AreWhole whole fraction false exponent
    raises_says few = (
      (λ below. (
        ending.number * 10 ^ (count + digits_value exponent - length fraction),
        (raised (digits_value (whole ++ fraction)) ending.number count ending.is (length fraction)
            (digits_value exponent)
            (ending.number * 10 ^ (count + digits_value exponent - length fraction))).0
            (some_smaller ending.number (count + digits_value exponent) (length fraction) (omega arith)),
      )),
      (λ (k, are). let enough : length fraction ≤ count + digits_value exponent =
          no_greater ending.number k (count + digits_value exponent) (length fraction) no_zero
          ((raised (digits_value (whole ++ fraction)) ending.number count ending.is (length fraction)
          (digits_value exponent) k).1 are) in omega arith),
    )

    pub divided : count < huge → lowers ≡ true
        → IsTrue (nat_le (length fraction + power) count) ↔ AreWhole whole fraction lowers exponent
    divided few is = let says = lowers_says few in let P : Bool → Type 0 = λ b. AreWhole whole fraction b exponent in (
      (λ t. subst P (sym is) (says.0 (leb-true (length fraction + power) count t))),
      (λ h. le-leb (length fraction + power) count (says.1 (subst P is h))),
    )

    pub multiplied : length fraction < huge → lowers ≡ false
        → IsTrue (nat_le (length fraction) (count + power)) ↔ AreWhole whole fraction lowers exponent
    multiplied few is = let says = raises_says few in
        let P : Bool → Type 0 = λ b. AreWhole whole fraction b exponent in (
          (λ t. subst P (sym is) (says.0 (leb-true (length fraction) (count + power) t))),
          (λ h. le-leb (length fraction) (count + power) (says.1 (subst P is h))),
        )
