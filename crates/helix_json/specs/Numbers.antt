-- Numbers: RFC 8259, section 6.
use Rattle.helix_base.specs.Digits.{is_digit, AreDigits}
use Rattle.std.specs.Prelude.{IsTrue, ◌≡◌, ◌≢◌, ◌⊎◌, ℕ, ◌+◌, ◌*◌, ◌-◌, ◌^◌, ℤ, pos, neg_ℤ, Bool, true, false, List, [], ◌∷◌, ◌++◌, length}

-- `0`, or a digit from 1 to 9 with further digits
abbrev pub IsWhole : List ℕ → Type 0
IsWhole [] = ⊥
IsWhole (c ∷ cs) = IsTrue (is_digit c) × AreDigits cs × (c ≡ 48 → cs ≡ [])

-- the sign of an exponent, where one is written
pub data Sign : Type 0 where
  plus : Sign
  minus : Sign
  no_sign : Sign

-- no exponent; or `e` or `E`, a sign or none, and digits
pub data Exponent : Type 0 where
  no_exponent : Exponent
  power : ℕ → Sign → List ℕ → Exponent

-- an exponent has its letter and at least one digit
abbrev pub IsExponent : Exponent → Type 0
IsExponent no_exponent = Unit {0}
IsExponent (power mark sign digits) = ((mark ≡ 69) ⊎ (mark ≡ 101)) × (digits ≢ []) × AreDigits digits

-- the parts of a number: whether it begins with `-`, the digits before and after the point, the exponent
pub record NumberParts : Type 0 where
  pub negative : Bool
  pub whole : List ℕ
  pub fraction : List ℕ
  pub exponent : Exponent

-- the parts keep to the grammar
pub record AreParts (parts : NumberParts) : Type 0 where
  pub whole : IsWhole parts.whole
  pub fraction : AreDigits parts.fraction
  pub exponent : IsExponent parts.exponent

-- `-`, where the number begins with one
abbrev pub minus_text : Bool → List ℕ
minus_text true = 45 ∷ []
minus_text false = []

-- `.` and the digits, where there are any
abbrev pub fraction_text : List ℕ → List ℕ
fraction_text [] = []
fraction_text (c ∷ cs) = 46 ∷ c ∷ cs

-- `+`, `-` or nothing
abbrev pub sign_text : Sign → List ℕ
sign_text plus = 43 ∷ []
sign_text minus = 45 ∷ []
sign_text no_sign = []

-- the letter, the sign and the digits of an exponent
abbrev pub exponent_text : Exponent → List ℕ
exponent_text no_exponent = []
exponent_text (power mark sign digits) = mark ∷ sign_text sign ++ digits

-- the text of the parts, one after the other
abbrev pub number_text : NumberParts → List ℕ
number_text parts = minus_text parts.negative
    ++ (parts.whole ++ (fraction_text parts.fraction ++ exponent_text parts.exponent))

-- the text is that of these parts
pub record SpellsNumber (text : List ℕ) (parts : NumberParts) : Type 0 where
  pub are : AreParts parts
  pub is : text ≡ number_text parts

-- a JSON number
abbrev pub IsNumber : List ℕ → Type 0
IsNumber text = (parts : NumberParts) × SpellsNumber text parts

-- the number that digits write in base ten, after those that have given n
abbrev pub digits_from : ℕ → List ℕ → ℕ
digits_from n [] = n
digits_from n (c ∷ cs) = digits_from (n * 10 + (c - 48)) cs

-- the number that digits write in base ten
abbrev pub digits_value : List ℕ → ℕ
digits_value digits = digits_from 0 digits

-- the power of ten by which an exponent multiplies
abbrev pub power_up : Exponent → ℕ
power_up no_exponent = 0
power_up (power mark plus digits) = digits_value digits
power_up (power mark minus digits) = 0
power_up (power mark no_sign digits) = digits_value digits

-- the power of ten by which an exponent divides
abbrev pub power_down : Exponent → ℕ
power_down no_exponent = 0
power_down (power mark plus digits) = 0
power_down (power mark minus digits) = digits_value digits
power_down (power mark no_sign digits) = 0

-- without its sign the number is n units of 10^-15; both sides are made whole by the powers that divide
abbrev pub HasUnits : NumberParts → ℕ → Type 0
HasUnits parts n = digits_value (parts.whole ++ parts.fraction) * 10 ^ (15 + power_up parts.exponent)
    ≡ n * 10 ^ (length parts.fraction + power_down parts.exponent)

-- a number with its sign
abbrev pub signed : Bool → ℕ → ℤ
signed true n = neg_ℤ (pos n)
signed false n = pos n

-- the number is `units` units of 10^-15
abbrev pub IsUnits : List ℕ → ℤ → Type 0
IsUnits text units = (parts : NumberParts) × SpellsNumber text parts × (n : ℕ) × HasUnits parts n
    × (units ≡ signed parts.negative n)
