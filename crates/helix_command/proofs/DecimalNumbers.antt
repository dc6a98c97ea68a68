-- Numerals and the decimal texts of numbers.
use Rattle.std.proofs.Common.{◌≡◌, ◌≢◌, ℕ, zero, suc, ◌^◌, ◌<◌, ◌≤◌, ◌↔◌, Bool, true, false, ◌&&◌, not, if◌then◌else◌, nat_eq, nat_le, List, [], ◌∷◌, Some, None, length, get_or, decimal, refl, sym, ap, ◌∙◌, subst, eq-eqb, arith}
use Rattle.std.specs.Int.{IsInRange}
use Rattle.std.specs.List.{list_all}
use Rattle.std.specs.Str.Parse.{digits_value}
use Rattle.std.proofs.lemmas.Bool.{and_parts, and_from, leb-true, le-leb, false_from_ne_true, eqb-true}
use Rattle.std.proofs.lemmas.Fmt.{decimal_digit, decimal_nonempty, first_decimal, digits_value-decimal, decimal-digits_value, digits_decimal}
use Rattle.std.proofs.lemmas.Str.Parse.{IsNumeralModel, numerals_by_value, tells_by_index}
use Rattle.helix_base.specs.Digits.{is_digit}
use Rattle.helix_base.specs.Inner.DigitLaws.{digit_within}
use Rattle.helix_command.specs.Values.{is_numeral, number_within}
use Rattle.helix_command.proofs.Numerals.{numeral_at}

abbrev AreInRange : List ℕ → Type 0
AreInRange text = (i : ℕ) → i < length text → IsInRange 48 57 (get_or text i 0)

own : IsNumeralModel AreInRange (digits_value 10)
own = numerals_by_value AreInRange tells_by_index

not_same : (a b : ℕ) → not (nat_eq a b) ≡ true → a ≢ b
not_same a b differ same =
    let e : nat_eq a b ≡ true = eq-eqb a b same in
    let f : not true ≡ true = ap not (sym e) ∙ differ in cc

same_not : (a b : ℕ) → a ≢ b → not (nat_eq a b) ≡ true
same_not a b differ = ap not (false_from_ne_true (nat_eq a b) (λ e. differ (eqb-true a b e)))

-- what a numeral is
record IsNumeral (text : List ℕ) : Type 0 where
  some : 0 < length text
  first : get_or text 0 0 ≢ 48
  digits : AreInRange text

numeral_parts : (text : List ℕ) → is_numeral text ≡ true → IsNumeral text
numeral_parts text is =
    let parts = and_parts (not (nat_eq (length text) 0) && not (nat_eq (get_or text 0 0) 48))
    (list_all is_digit text) is in
    let begin = and_parts (not (nat_eq (length text) 0)) (not (nat_eq (get_or text 0 0) 48)) parts.0 in
    let filled : length text ≢ 0 = not_same (length text) 0 begin.0 in
    record {
      some = omega arith;
      first = not_same (get_or text 0 0) 48 begin.1;
      digits = λ i within. numeral_at text i is within;
    }

all_digits : (text : List ℕ) → AreInRange text → list_all is_digit text ≡ true
all_digits [] all = refl
all_digits (code ∷ text) all =
    let here : IsInRange 48 57 code = all 0 (omega arith) in
    and_from (is_digit code) (list_all is_digit text) (digit_within code here.0 here.1)
    (all_digits text (λ i within. all (suc i) (omega arith)))

numeral_from : (text : List ℕ) → IsNumeral text → is_numeral text ≡ true
numeral_from text parts =
    let filled : 0 < length text = parts.some in
    and_from (not (nat_eq (length text) 0) && not (nat_eq (get_or text 0 0) 48)) (list_all is_digit text)
    (and_from (not (nat_eq (length text) 0)) (not (nat_eq (get_or text 0 0) 48))
    (same_not (length text) 0 (λ e. absurd (omega arith))) (same_not (get_or text 0 0) 48 parts.first))
    (all_digits text parts.digits)

some_by : (b : Bool) (value n : ℕ) → (if b then Some value else None) ≡ Some n → (b ≡ true) × (value ≡ n)
some_by true value n e = (refl, cc)
some_by false value n e = absurd (cc)

positive_by : (n : ℕ) (text : List ℕ) → text ≡ decimal n → get_or text 0 0 ≢ 48 → 1 ≤ n
positive_by zero text is other =
    absurd (other (ap (λ l. get_or l 0 0) (is ∙ decimal_digit 0 (omega arith))))
positive_by (suc n) text is other = omega arith

is_decimal : (most n : ℕ) (text : List ℕ) → most < 2 ^ 64 → number_within most text ≡ Some n
    → (text ≡ decimal n) × (1 ≤ n) × (n ≤ most)
unfolding number_within
is_decimal most n text small is =
    let found = some_by (is_numeral text && nat_le (digits_value 10 text) most) (digits_value 10 text) n is in
    let parts = and_parts (is_numeral text) (nat_le (digits_value 10 text) most) found.0 in
    let numeral = numeral_parts text parts.0 in
    let within : digits_value 10 text ≤ most = leb-true (digits_value 10 text) most parts.1 in
    let value : digits_value 10 text ≡ n = found.1 in
    let spelt : decimal (digits_value 10 text) ≡ text = decimal-digits_value own text numeral.digits numeral.some
    (λ zero_first. absurd (numeral.first zero_first)) (omega arith) in
    let text_is : text ≡ decimal n = sym spelt ∙ ap decimal value in
    (text_is, positive_by n text text_is numeral.first, omega arith)

spelt_number : (most n : ℕ) → most < 2 ^ 64 → 1 ≤ n → n ≤ most → number_within most (decimal n) ≡ Some n
unfolding number_within
spelt_number most n small positive within =
    let fits : n < 2 ^ 64 = omega arith in
    let value : digits_value 10 (decimal n) ≡ n = digits_value-decimal own n fits in
    let first : 48 < get_or (decimal n) 0 0 = first_decimal n (omega arith) fits in
    let numeral : is_numeral (decimal n) ≡ true = numeral_from (decimal n) (record {
      some = decimal_nonempty n fits;
      first = λ e. absurd (omega arith);
      digits = digits_decimal own n fits;
    }) in
    let less : nat_le (digits_value 10 (decimal n)) most ≡ true =
    le-leb (digits_value 10 (decimal n)) most (omega arith) in
    ap (λ b. if b then Some (digits_value 10 (decimal n)) else None)
    (and_from (is_numeral (decimal n)) (nat_le (digits_value 10 (decimal n)) most) numeral less) ∙ ap Some value

pub numbers_are_decimal : (most n : ℕ) (text : List ℕ) → most < 2 ^ 64
    → number_within most text ≡ Some n ↔ ((text ≡ decimal n) × (1 ≤ n) × (n ≤ most))
numbers_are_decimal most n text small = (
  is_decimal most n text small,
  λ is. subst (λ l. number_within most l ≡ Some n) (sym is.0) (spelt_number most n small is.1 is.2),
)
