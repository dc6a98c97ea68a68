-- What the parts of `number_units` promise each other.
use Rattle.std.specs.Prelude.{IsTrue, ◌≡◌, ◌≢◌, ℕ, ◌+◌, ◌*◌, ◌^◌, ◌%◌, ◌≤◌, Bool, true, false, List, [], ◌∷◌, ◌++◌}
use Rattle.helix_json.specs.Numbers.{NumberParts, Exponent, power_up, power_down, digits_value}
use Rattle.helix_base.specs.Digits.{is_digit, AreDigits}

-- the list begins with no digit
abbrev pub NoDigit : List ℕ → Type 0
NoDigit [] = Unit {0}
NoDigit (c ∷ cs) = ¬ (IsTrue (is_digit c))

-- a minus is taken from the beginning, if one is there
abbrev pub TakesSign : List ℕ → Bool → List ℕ → Type 0
TakesSign text true rest = text ≡ 45 ∷ rest
TakesSign text false rest = (text ≡ rest) × ((more : List ℕ) → text ≢ 45 ∷ more)

-- a point and the digits after it are taken from the beginning, if a point is there
abbrev pub TakesFraction : List ℕ → List ℕ → List ℕ → Type 0
TakesFraction text digits rest = ((more : List ℕ) → text ≡ 46 ∷ more
    → (more ≡ digits ++ rest) × AreDigits digits × NoDigit rest)
    × (((more : List ℕ) → text ≢ 46 ∷ more) → (digits ≡ []) × (rest ≡ text))

-- what is left after the mark and the sign of an exponent
abbrev pub TakesExponent : List ℕ → Bool → List ℕ → Type 0
TakesExponent [] negative digits = (negative ≡ false) × (digits ≡ [])
TakesExponent (mark ∷ []) negative digits = (negative ≡ false) × (digits ≡ [])
TakesExponent (mark ∷ c ∷ cs) true digits = (c ≡ 45) × (digits ≡ cs)
TakesExponent (mark ∷ c ∷ cs) false digits = (c ≢ 45) × ((c ≡ 43 → digits ≡ cs) × (c ≢ 43 → digits ≡ c ∷ cs))

-- n is value times 10^zeros, and has no zero at its end
pub record IsReduced (value n zeros : ℕ) : Type 0 where
  pub is : value ≡ n * 10 ^ zeros
  pub no_zero : n ≢ 0 → n % 10 ≢ 0

-- no value up to a bound, times a power of ten, is it
abbrev pub Unreachable : ℕ → ℕ → Type 0
Unreachable most value = (n zeros : ℕ) → n ≤ most → value ≢ n * 10 ^ zeros

-- digits of a value, `places` of them after the point, with an exponent, are n units of 10^-15
abbrev pub AreUnits : ℕ → ℕ → Bool → ℕ → ℕ → Type 0
AreUnits value places true exponent n = value * 10 ^ 15 ≡ n * 10 ^ (places + exponent)
AreUnits value places false exponent n = value * 10 ^ (15 + exponent) ≡ n * 10 ^ places

-- whether an exponent lowers, and its digits
pub record ExponentIs (exponent : Exponent) (lowers : Bool) (digits : List ℕ) : Type 0 where
  pub are_digits : AreDigits digits
  pub when_raised : lowers ≡ false → (power_up exponent ≡ digits_value digits) × (power_down exponent ≡ 0)
  pub when_lowered : lowers ≡ true → (power_up exponent ≡ 0) × (power_down exponent ≡ digits_value digits)

-- these are the parts of a number
pub record Found (parts : NumberParts) (negative : Bool) (whole fraction : List ℕ) (lowers : Bool)
    (digits : List ℕ) : Type 0
  where
    pub negative_is : negative ≡ parts.negative
    pub whole_is : whole ≡ parts.whole
    pub fraction_is : fraction ≡ parts.fraction
    pub exponent_is : ExponentIs parts.exponent lowers digits
