-- The words that complete a prefix: with the characters of the prefix before them they are words of the code.
use Rattle.std.specs.Prelude.{ℕ, ◌+◌, ◌-◌, ◌%◌, ◌<◌, ◌≤◌, Bool, false, ◌&&◌, ◌==◌, if◌then◌else◌, Option, Some, None, List, length, take, drop, map, reverse}
use Rattle.std.specs.List.{list_all, flat_map}
use Rattle.helix_base.specs.Digits.{is_digit}
use Rattle.helix_base.specs.Weights.{weighted_sum}
use Rattle.helix_values.specs.Codes.{is_capital, is_capital_or_digit, is_sedol_character, is_cusip_character, value_of, digits_of, doubled_sum, sedol_weights}
use Rattle.helix_values.specs.declared.kind.Code.{Code}
use Rattle.helix_values.specs.declared.kind.Code.TheVariants.{Isin, Sedol, Cusip}
use Rattle.helix_codes.specs.declared.prefix.Prefix.{Prefix}
use Rattle.helix_codes.specs.Inner.Positions.{length_of}

-- a prefix of a word of a code
pub record IsPrefix (code : Code) (prefix : Prefix) : Type 0 where
  pub short : prefix.count ≤ length_of code
  pub even : prefix.even < 10
  pub odd : prefix.odd < 10

-- no word of the code begins so, or a prefix
abbrev pub IsPrefixOrNone : Code → Option Prefix → Type 0
IsPrefixOrNone code None = Unit {0}
IsPrefixOrNone code (Some prefix) = IsPrefix code prefix

-- an odd number
abbrev pub is_odd : ℕ → Bool
is_odd n = n % 2 == 1

-- what is left of two letters, nine letters or digits, one digit
abbrev pub ends_isin_shape : ℕ → List ℕ → Bool
ends_isin_shape count word = list_all is_capital (take (2 - count) word)
    && list_all is_capital_or_digit (drop (2 - count) word) && list_all is_digit (drop (11 - count) word)

-- the sum of the prefix where these digits follow, and theirs
abbrev pub isin_sum : Prefix → List ℕ → ℕ
isin_sum prefix digits = (if is_odd (length digits) then prefix.odd else prefix.even)
    + doubled_sum false (reverse digits)

abbrev pub completes_isin : Prefix → List ℕ → Bool
completes_isin prefix word = (length word == 12 - prefix.count) && ends_isin_shape prefix.count word
    && (isin_sum prefix (flat_map digits_of word) % 10 == 0)

abbrev pub completes_sedol : Prefix → List ℕ → Bool
completes_sedol prefix word = (length word == 7 - prefix.count)
    && (list_all is_sedol_character word && list_all is_digit (drop (6 - prefix.count) word))
    && ((prefix.even + weighted_sum (drop prefix.count sedol_weights) (map value_of word)) % 10 == 0)

abbrev pub completes_cusip : Prefix → List ℕ → Bool
completes_cusip prefix word = (length word == 9 - prefix.count)
    && (list_all is_cusip_character word && list_all is_digit (drop (8 - prefix.count) word))
    && ((prefix.even + doubled_sum (is_odd prefix.count) (map value_of word)) % 10 == 0)

-- the word completes the prefix
abbrev pub completes : Code → Prefix → List ℕ → Bool
completes Isin prefix word = completes_isin prefix word
completes Sedol prefix word = completes_sedol prefix word
completes Cusip prefix word = completes_cusip prefix word

-- the same, and nothing completes what is no prefix
abbrev pub completed_by : Code → Option Prefix → List ℕ → Bool
completed_by code None word = false
completed_by code (Some prefix) word = completes code prefix word
