-- ASCII digits.
use Rattle.std.specs.Prelude.{ℕ, Bool, ◌&&◌, nat_le, IsTrue, List, [], ◌∷◌}

-- '0' is 48, and '9' is 57
abbrev pub is_digit : ℕ → Bool
is_digit code = nat_le 48 code && nat_le code 57

-- each code is a digit
abbrev pub AreDigits : List ℕ → Type 0
AreDigits [] = Unit {0}
AreDigits (code ∷ codes) = IsTrue (is_digit code) × AreDigits codes
