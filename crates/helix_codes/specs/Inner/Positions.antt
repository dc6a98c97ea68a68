-- Which characters a code has at the position after a number of characters.
use Rattle.std.specs.Prelude.{ℕ, Bool, ◌&&◌, ◌==◌, nat_lt, if◌then◌else◌}
use Rattle.helix_base.specs.Digits.{is_digit}
use Rattle.helix_values.specs.Codes.{is_capital, is_capital_or_digit, is_sedol_character, is_cusip_character}
use Rattle.helix_values.specs.declared.kind.Code.{Code}
use Rattle.helix_values.specs.declared.kind.Code.TheVariants.{Isin, Sedol, Cusip}

-- the number of characters of a code's words
abbrev pub length_of : Code → ℕ
length_of Isin = 12
length_of Sedol = 7
length_of Cusip = 9

-- two letters, nine letters or digits, one digit
abbrev pub isin_allows : ℕ → ℕ → Bool
isin_allows count c = if nat_lt count 2 then is_capital c else (if nat_lt count 11 then is_capital_or_digit c
    else ((count == 11) && is_digit c))

-- six digits or letters other than vowels, one digit
abbrev pub sedol_allows : ℕ → ℕ → Bool
sedol_allows count c = if nat_lt count 6 then is_sedol_character c else ((count == 6) && is_digit c)

-- eight digits, letters or signs, one digit
abbrev pub cusip_allows : ℕ → ℕ → Bool
cusip_allows count c = if nat_lt count 8 then is_cusip_character c else ((count == 8) && is_digit c)
