-- The written form of a number spells it, and a text spells one number at most.
use Rattle.std.proofs.Common.{◌≡◌, ◌≢◌, ℕ, ◌+◌, ◌*◌, ◌/◌, ◌%◌, ◌^◌, ◌≤◌, ℤ, pos, negsuc, List, [], ◌∷◌, ◌++◌, length, Bool, true, false, inl, inr, decimal, refl, sym, ap, ◌∙◌, subst, arith}
use Rattle.std.specs.Prelude.{unsigned_abs}
use Rattle.helix_json.specs.Numbers.{IsWhole, NumberParts, SpellsNumber, Exponent, no_exponent, power, plus, minus, no_sign, IsExponent, fraction_text, exponent_text, minus_text, digits_from, digits_value, HasUnits, signed, IsUnits}
use Rattle.helix_base.specs.Digits.{AreDigits}
use Rattle.helix_base.specs.Inner.DigitLaws.{digit_bounds}
use Rattle.helix_json.specs.Inner.Pieces.{NoDigit, TakesSign, TakesFraction, TakesExponent, Found, AreUnits}
use Rattle.helix_json.specs.Inner.DecimalLaws.{from-append, cancel}
use Rattle.helix_json.specs.Inner.PartsLaws.{parts_found, units_found, whole_digits, exponent_no_digit, tail_no_digit, no_point}
use Rattle.std.proofs.lemmas.Nat.{pow-add}
use Rattle.std.proofs.lemmas.List.{append-nil}
use Rattle.helix_texts.specs.Texts.{last_digits, without_zeros, is_negative, one, units_text}
use Rattle.helix_texts.proofs.DecimalTexts.{decimal_whole, decimal_value, last_digits_are, last_digits-from, without_zeros_are, without_zeros-from}
use Rattle.helix_texts.proofs.FixedDigits.{length-last_digits}

signed_itself : (u : ℤ) → u ≡ signed (is_negative u) (unsigned_abs u)
signed_itself (pos n) = refl
signed_itself (negsuc n) = refl

-- the parts that a number is written with
parts_of : ℤ → NumberParts
parts_of u = record {
  negative = is_negative u;
  whole = decimal (unsigned_abs u / one);
  fraction = without_zeros (last_digits 15 (unsigned_abs u % one));
  exponent = no_exponent;
}

-- the whole part and all fifteen places are the number
all_places : (n : ℕ) → n ≤ 10 ^ 35 → digits_from (digits_value (decimal (n / one))) (last_digits 15 (n % one)) ≡ n
all_places n within =
    last_digits-from 15 (digits_value (decimal (n / one))) (n % one)
    ∙ omega (arith, decimal_value (n / one) (omega arith))

-- the zeros that were left out are in the power of ten
spread : (a n places zeros : ℕ) → a * 10 ^ zeros ≡ n → 15 ≡ places + zeros → a * 10 ^ 15 ≡ n * 10 ^ places
spread a n places zeros value lengths =
    let sum : zeros + places ≡ 15 = omega arith in
    let power : 10 ^ 15 ≡ 10 ^ zeros * 10 ^ places = subst (λ k. 10 ^ k ≡ 10 ^ zeros * 10 ^ places) sum
    (pow-add 10 zeros places) in
    ap (λ p. a * p) power ∙ (rw (← value) (omega arith))

has_units : (u : ℤ) → unsigned_abs u ≤ 10 ^ 35 → HasUnits (parts_of u) (unsigned_abs u)
unfolding parts_of
has_units u within =
    let n = unsigned_abs u in
    let left = without_zeros-from (last_digits 15 (n % one)) (digits_value (decimal (n / one))) in
    let places = without_zeros (last_digits 15 (n % one)) in
    let split : digits_value (decimal (n / one) ++ places)
    ≡ digits_from (digits_value (decimal (n / one))) places = from-append 0 (decimal (n / one)) places in
    let none_more : length places ≡ length places + 0 = omega arith in
    ap (λ a. a * 10 ^ 15) split
    ∙ (spread (digits_from (digits_value (decimal (n / one))) places) n (length places) left.zeros (sym left.value
    ∙ all_places n within) (omega (arith, left.lengths, length-last_digits 15 (n % one)))
    ∙ ap (λ k. n * 10 ^ k) none_more)

pub number_spells : (u : ℤ) → unsigned_abs u ≤ 10 ^ 35 → IsUnits (units_text u) u
unfolding parts_of
number_spells u within = (
  parts_of u,
  record {
    are = record {
      whole = decimal_whole (unsigned_abs u / one) (omega arith);
      fraction = without_zeros_are (last_digits 15 (unsigned_abs u % one))
          (last_digits_are 15 (unsigned_abs u % one));
      exponent = tt;
    };
    is = ap (λ t. minus_text (is_negative u) ++ (decimal (unsigned_abs u / one) ++ t))
        (sym (append-nil (fraction_text (without_zeros (last_digits 15 (unsigned_abs u % one))))));
  },
  unsigned_abs u,
  has_units u within,
  signed_itself u,
)

-- a number is taken apart into what it was written with
sign_taken : (negative : Bool) (whole after : List ℕ) → IsWhole whole
    → TakesSign (minus_text negative ++ (whole ++ after)) negative (whole ++ after)
sign_taken true whole after is = refl
sign_taken false [] after is = absurd is
sign_taken false (c ∷ cs) after is = (
  refl,
  λ more begins. let m : c ≡ 45 = cc in
      let d : (48 ≤ c) × (c ≤ 57) = digit_bounds c is.0 in omega arith,
)

fraction_taken : (fraction : List ℕ) (e : Exponent) → AreDigits fraction → IsExponent e
    → TakesFraction (fraction_text fraction ++ exponent_text e) fraction (exponent_text e)
fraction_taken [] e digits is = ((λ more begins. absurd (no_point e is more begins)), λ none. (refl, refl))
fraction_taken (c ∷ cs) e digits is = (
  (λ more begins. ((let same : c ∷ cs ++ exponent_text e ≡ more = cc in sym same), digits, exponent_no_digit e is)),
  λ none. absurd (none (c ∷ cs ++ exponent_text e) refl),
)

-- whether an exponent divides, and its digits
lowers_of : Exponent → Bool
lowers_of (power mark minus digits) = true
lowers_of other = false

digits_of : Exponent → List ℕ
digits_of no_exponent = []
digits_of (power mark sign digits) = digits

exponent_taken : (e : Exponent) → IsExponent e → TakesExponent (exponent_text e) (lowers_of e) (digits_of e)
unfolding lowers_of digits_of
exponent_taken no_exponent is = (refl, refl)
exponent_taken (power mark plus ds) is = ((λ e. omega arith), ((λ e. refl), λ ne. absurd (ne refl)))
exponent_taken (power mark minus ds) is = (refl, refl)
exponent_taken (power mark no_sign []) is = absurd (is.1 refl)
exponent_taken (power mark no_sign (d ∷ ds)) is =
    let k : (48 ≤ d) × (d ≤ 57) = digit_bounds d is.2.0 in
    ((λ e. omega arith), ((λ e. absurd (omega arith)), λ ne. refl))

found : (text : List ℕ) (p q : NumberParts) → SpellsNumber text p → SpellsNumber text q
    → Found q p.negative p.whole p.fraction (lowers_of p.exponent) (digits_of p.exponent)
found text p q first second =
    let after = fraction_text p.fraction ++ exponent_text p.exponent in
    parts_found text (p.whole ++ after) p.whole after p.fraction (exponent_text p.exponent) (digits_of p.exponent)
    p.negative (lowers_of p.exponent)
    (subst (λ t. TakesSign t p.negative (p.whole ++ after)) (sym first.is)
    (sign_taken p.negative p.whole after first.are.whole)) refl
    (whole_digits p.whole first.are.whole) (tail_no_digit p.fraction p.exponent first.are.exponent)
    (fraction_taken p.fraction p.exponent first.are.fraction first.are.exponent)
    (exponent_taken p.exponent first.are.exponent) q second

same_units : (value places exponent m n : ℕ) (lowers : Bool) → AreUnits value places lowers exponent m
    → AreUnits value places lowers exponent n → m ≡ n
same_units value places exponent m n true first second = cancel m n (places + exponent) (sym first ∙ second)
same_units value places exponent m n false first second = cancel m n places (sym first ∙ second)

pub one_number : (text : List ℕ) (u v : ℤ) → IsUnits text u → IsUnits text v → u ≡ v
one_number text u v (p, first, m, has_m, u_is) (q, second, n, has_n, v_is) =
    let here = found text p p first first in
    let there = found text p q first second in
    let same : m ≡ n =
    same_units (digits_value (p.whole ++ p.fraction)) (length p.fraction) (digits_value (digits_of p.exponent)) m n
    (lowers_of p.exponent)
    ((units_found p p.negative p.whole p.fraction (digits_of p.exponent) (lowers_of p.exponent) m here).0 has_m)
    ((units_found q p.negative p.whole p.fraction (digits_of p.exponent) (lowers_of p.exponent) n there).0 has_n) in
    u_is ∙ (ap (signed p.negative) same ∙ (ap (λ b. signed b n) there.negative_is ∙ sym v_is))
