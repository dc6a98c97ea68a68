-- The check rules of ISIN (ISO 6166), SEDOL and CUSIP (ANSI X9.6).
use Rattle.std.specs.Prelude.{ℕ, ◌+◌, ◌-◌, ◌*◌, ◌/◌, ◌%◌, Bool, false, not, ◌&&◌, ◌||◌, ◌==◌, nat_le, IsTrue, if◌then◌else◌, List, [], ◌∷◌, length, take, drop, map, reverse}
use Rattle.std.specs.List.{list_all, flat_map}
use Rattle.helix_base.specs.Digits.{is_digit}
use Rattle.helix_base.specs.Weights.{weighted_sum}
use Rattle.helix_values.specs.declared.kind.Code.{Code}
use Rattle.helix_values.specs.declared.kind.Code.TheVariants.{Isin, Sedol, Cusip}

-- from `A` (65) to `Z` (90)
abbrev pub is_capital : ℕ → Bool
is_capital c = nat_le 65 c && nat_le c 90

-- a capital letter or a digit
abbrev pub is_capital_or_digit : ℕ → Bool
is_capital_or_digit c = is_capital c || is_digit c

-- `A`, `E`, `I`, `O` or `U`
abbrev pub is_vowel : ℕ → Bool
is_vowel c = (c == 65) || (c == 69) || (c == 73) || (c == 79) || (c == 85)

-- a digit, or a letter that is no vowel
abbrev pub is_sedol_character : ℕ → Bool
is_sedol_character c = is_capital_or_digit c && not (is_vowel c)

-- a digit, a letter, `*`, `@` or `#`
abbrev pub is_cusip_character : ℕ → Bool
is_cusip_character c = is_capital_or_digit c || (c == 42) || (c == 64) || (c == 35)

-- a digit's own value, 10 to 35 for A to Z, and 36 to 38 for `*`, `@` and `#`
abbrev pub value_of : ℕ → ℕ
value_of c = if is_digit c then c - 48 else (if c == 42 then 36
    else (if c == 64 then 37 else (if c == 35 then 38 else c - 55)))

-- the two decimal digits of a number below 100, added
abbrev pub digit_sum : ℕ → ℕ
digit_sum n = n / 10 + n % 10

-- each second number is doubled, the first where `twice` says so; then the decimal digits of all are added
abbrev pub doubled_sum : Bool → List ℕ → ℕ
doubled_sum twice [] = 0
doubled_sum twice (n ∷ ns) = digit_sum (if twice then 2 * n else n) + doubled_sum (not twice) ns

-- a letter as the two digits of its value, a digit as itself
abbrev pub digits_of : ℕ → List ℕ
digits_of c = if is_digit c then value_of c ∷ [] else value_of c / 10 ∷ value_of c % 10 ∷ []

-- two letters, nine letters or digits, one digit
abbrev pub is_isin_shape : List ℕ → Bool
is_isin_shape word = list_all is_capital (take 2 word) && list_all is_capital_or_digit (drop 2 word)
    && list_all is_digit (drop 11 word)

-- of the digits of all characters, counted from the last, each second one is doubled
abbrev pub is_isin : List ℕ → Bool
is_isin word =
    (length word == 12) && is_isin_shape word && (doubled_sum false (reverse (flat_map digits_of word)) % 10 == 0)

-- the weight of each character of a SEDOL
abbrev pub sedol_weights : List ℕ
sedol_weights = 1 ∷ 3 ∷ 1 ∷ 7 ∷ 3 ∷ 9 ∷ 1 ∷ []

-- six digits or letters other than vowels, one digit
abbrev pub is_sedol_shape : List ℕ → Bool
is_sedol_shape word = list_all is_sedol_character word && list_all is_digit (drop 6 word)

-- seven characters whose weighted values, added, are a multiple of 10
abbrev pub is_sedol : List ℕ → Bool
is_sedol word = (length word == 7) && is_sedol_shape word && (weighted_sum sedol_weights (map value_of word) % 10 == 0)

-- eight digits, letters or signs, one digit
abbrev pub is_cusip_shape : List ℕ → Bool
is_cusip_shape word = list_all is_cusip_character word && list_all is_digit (drop 8 word)

-- each second value is doubled, from the second on
abbrev pub is_cusip : List ℕ → Bool
is_cusip word = (length word == 9) && is_cusip_shape word && (doubled_sum false (map value_of word) % 10 == 0)

-- a word of the code with the right check digit
abbrev pub is_valid_code : Code → List ℕ → Bool
is_valid_code Isin word = is_isin word
is_valid_code Sedol word = is_sedol word
is_valid_code Cusip word = is_cusip word

-- the same, as a fact
abbrev pub IsValidCode : Code → List ℕ → Type 0
IsValidCode code word = IsTrue (is_valid_code code word)
