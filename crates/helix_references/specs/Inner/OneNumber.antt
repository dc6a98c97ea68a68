-- A text is one number at most.
use Rattle.std.proofs.Common.{◌≡◌, ℕ, ◌+◌, ◌≤◌, ℤ, List, [], ◌∷◌, ◌++◌, length, Bool, true, false, refl, sym, ap, ◌∙◌, subst, arith}
use Rattle.helix_json.specs.Numbers.{IsWhole, NumberParts, SpellsNumber, Exponent, no_exponent, power, plus, minus, no_sign, IsExponent, fraction_text, exponent_text, minus_text, digits_value, signed, IsUnits}
use Rattle.helix_base.specs.Digits.{AreDigits}
use Rattle.helix_base.specs.Inner.DigitLaws.{digit_bounds}
use Rattle.helix_json.specs.Inner.Pieces.{TakesSign, TakesFraction, TakesExponent, Found, AreUnits}
use Rattle.helix_json.specs.Inner.DecimalLaws.{cancel}
use Rattle.helix_json.specs.Inner.PartsLaws.{parts_found, units_found, whole_digits, exponent_no_digit, tail_no_digit, no_point}

-- a number is taken apart into what it was written with
sign_taken : (negative : Bool) (whole after : List ℕ) → IsWhole whole
    → TakesSign (minus_text negative ++ (whole ++ after)) negative (whole ++ after)
sign_taken true whole after is = refl
sign_taken false [] after is = absurd is
sign_taken false (c ∷ cs) after is = (
  refl,
  λ more begins. let m : c ≡ 45 = cc in
      let d : (48 ≤ c) × (c ≤ 57) = digit_bounds c is.0 in omega arith,
)

fraction_taken : (fraction : List ℕ) (e : Exponent) → AreDigits fraction → IsExponent e
    → TakesFraction (fraction_text fraction ++ exponent_text e) fraction (exponent_text e)
fraction_taken [] e digits is = ((λ more begins. absurd (no_point e is more begins)), λ none. (refl, refl))
fraction_taken (c ∷ cs) e digits is = (
  (λ more begins. ((let same : c ∷ cs ++ exponent_text e ≡ more = cc in sym same), digits, exponent_no_digit e is)),
  λ none. absurd (none (c ∷ cs ++ exponent_text e) refl),
)

-- whether an exponent divides, and its digits
lowers_of : Exponent → Bool
lowers_of (power mark minus digits) = true
lowers_of other = false

digits_of : Exponent → List ℕ
digits_of no_exponent = []
digits_of (power mark sign digits) = digits

exponent_taken : (e : Exponent) → IsExponent e → TakesExponent (exponent_text e) (lowers_of e) (digits_of e)
unfolding lowers_of digits_of
exponent_taken no_exponent is = (refl, refl)
exponent_taken (power mark plus ds) is = ((λ e. omega arith), ((λ e. refl), λ ne. absurd (ne refl)))
exponent_taken (power mark minus ds) is = (refl, refl)
exponent_taken (power mark no_sign []) is = absurd (is.1 refl)
exponent_taken (power mark no_sign (d ∷ ds)) is =
    let k : (48 ≤ d) × (d ≤ 57) = digit_bounds d is.2.0 in
    ((λ e. omega arith), ((λ e. absurd (omega arith)), λ ne. refl))

found : (text : List ℕ) (p q : NumberParts) → SpellsNumber text p → SpellsNumber text q
    → Found q p.negative p.whole p.fraction (lowers_of p.exponent) (digits_of p.exponent)
found text p q first second =
    let after = fraction_text p.fraction ++ exponent_text p.exponent in
    parts_found text (p.whole ++ after) p.whole after p.fraction (exponent_text p.exponent) (digits_of p.exponent)
    p.negative (lowers_of p.exponent)
    (subst (λ t. TakesSign t p.negative (p.whole ++ after)) (sym first.is)
    (sign_taken p.negative p.whole after first.are.whole)) refl
    (whole_digits p.whole first.are.whole) (tail_no_digit p.fraction p.exponent first.are.exponent)
    (fraction_taken p.fraction p.exponent first.are.fraction first.are.exponent)
    (exponent_taken p.exponent first.are.exponent) q second

same_units : (value places exponent m n : ℕ) (lowers : Bool) → AreUnits value places lowers exponent m
    → AreUnits value places lowers exponent n → m ≡ n
same_units value places exponent m n true first second = cancel m n (places + exponent) (sym first ∙ second)
same_units value places exponent m n false first second = cancel m n places (sym first ∙ second)

-- a text is one number at most
pub one_number : (text : List ℕ) (u v : ℤ) → IsUnits text u → IsUnits text v → u ≡ v
one_number text u v (p, first, m, has_m, u_is) (q, second, n, has_n, v_is) =
    let here = found text p p first first in
    let there = found text p q first second in
    let same : m ≡ n =
    same_units (digits_value (p.whole ++ p.fraction)) (length p.fraction) (digits_value (digits_of p.exponent)) m n
    (lowers_of p.exponent)
    ((units_found p p.negative p.whole p.fraction (digits_of p.exponent) (lowers_of p.exponent) m here).0 has_m)
    ((units_found q p.negative p.whole p.fraction (digits_of p.exponent) (lowers_of p.exponent) n there).0 has_n) in
    u_is ∙ (ap (signed p.negative) same ∙ (ap (λ b. signed b n) there.negative_is ∙ sym v_is))
