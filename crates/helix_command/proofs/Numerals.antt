-- Numerals, a digit at a time.
use Rattle.std.proofs.Common.{◌≡◌, ℕ, zero, suc, ◌+◌, ◌*◌, ◌-◌, ◌<◌, ◌≤◌, Bool, true, false, ◌&&◌, if◌then◌else◌, nat_le, List, [], ◌∷◌, Some, None, length, take, get_or, refl, ap, arith}
use Rattle.std.specs.List.{list_all}
use Rattle.std.specs.Char.{digit_value}
use Rattle.std.specs.Str.Parse.{digits_value}
use Rattle.std.proofs.lemmas.Bool.{and_parts, leb-true, false_from_ne_true}
use Rattle.std.proofs.lemmas.Int.Digits.{digits_value_more}
use Rattle.std.proofs.lemmas.Str.{digit_value_digit}
use Rattle.std.proofs.lemmas.Str.Parse.{digits_value-take-le}
use Rattle.helix_base.specs.Digits.{is_digit}
use Rattle.helix_base.specs.Inner.DigitLaws.{digit_bounds}
use Rattle.helix_command.specs.Values.{is_numeral, number_within}

digit_at : (text : List ℕ) (i : ℕ) → list_all is_digit text ≡ true → i < length text
    → is_digit (get_or text i 0) ≡ true
digit_at [] i all within = absurd (omega arith)
digit_at (code ∷ text) zero all within = (and_parts (is_digit code) (list_all is_digit text) all).0
digit_at (code ∷ text) (suc i) all within =
    digit_at text i (and_parts (is_digit code) (list_all is_digit text) all).1 (omega arith)

-- each character of a numeral is a digit
pub numeral_at : (text : List ℕ) (i : ℕ) → is_numeral text ≡ true → i < length text
    → (48 ≤ get_or text i 0) × (get_or text i 0 ≤ 57)
numeral_at text i is within =
    digit_bounds (get_or text i 0) (digit_at text i (and_parts _ (list_all is_digit text) is).1 within)

-- the value with one digit more
pub value_step : (text : List ℕ) (i value : ℕ) → is_numeral text ≡ true → i < length text
    → value ≡ digits_value 10 (take i text)
    → value * 10 + (get_or text i 0 - 48) ≡ digits_value 10 (take (i + 1) text)
value_step text i value is within so_far =
    let bounds = numeral_at text i is within in
    let digit : digit_value (get_or text i 0) + 48 ≡ get_or text i 0 = digit_value_digit (get_or text i 0) bounds in
    omega (arith, digits_value_more 10 text i within)

over : (value most : ℕ) → most < value → nat_le value most ≡ false
over value most more = false_from_ne_true (nat_le value most)
    (λ e. let less : value ≤ most = leb-true value most e in absurd (omega arith))

none_by : (a b : Bool) (value : ℕ) → b ≡ false → (if a && b then Some value else None) ≡ None
none_by true b value e = ap (λ c. if c then Some value else None) e
none_by false b value e = refl

-- a numeral that is too great up to a digit
pub too_great : (most : ℕ) (text : List ℕ) (i value : ℕ) → value ≡ digits_value 10 (take (i + 1) text) → most < value
    → number_within most text ≡ None
unfolding number_within
too_great most text i value is more =
    let part : digits_value 10 (take (i + 1) text) ≤ digits_value 10 text =
    digits_value-take-le 10 text (i + 1) (omega arith) in
    none_by (is_numeral text) (nat_le (digits_value 10 text) most) (digits_value 10 text)
    (over (digits_value 10 text) most (omega arith))

pub ruleset number_steps = (value_step, too_great)
