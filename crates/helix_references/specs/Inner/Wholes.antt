-- What is found of a whole number.
use Rattle.std.specs.Prelude.{◌≡◌, ◌≢◌, ℕ, ◌*◌, ◌^◌, ◌%◌, ◌<◌, ◌≤◌, ℤ, nat_abs, Bool, MatchBool, List, ◌++◌, length}
use Rattle.helix_json.specs.Numbers.{digits_value, signed}
use Rattle.helix_json.specs.Inner.Pieces.{AreUnits}
use Rattle.helix_json.specs.declared.value.Json.{Json}
use Rattle.helix_references.specs.declared.whole.Whole.{Whole}
use Rattle.helix_references.specs.declared.whole.Whole.TheVariants as whole
use Rattle.helix_references.specs.Offsets.{GivesWhole}

-- the value is no whole number; it is this one and no other; or it is one beyond 10^20
abbrev pub SaysWhole : Json → Whole → Type 0
SaysWhole v whole.Not = (n : ℤ) → ¬ (GivesWhole v n)
SaysWhole v (whole.Within n) = GivesWhole v n × ((m : ℤ) → GivesWhole v m → m ≡ n) × (nat_abs n ≤ 10 ^ 20)
SaysWhole v whole.Beyond = (n : ℤ) × GivesWhole v n × (10 ^ 20 < nat_abs n)

-- the parts of a number are these units of 10^-15
abbrev pub AreUnitsOf : Bool → List ℕ → List ℕ → Bool → List ℕ → ℤ → Type 0
AreUnitsOf negative whole fraction lowers exponent units = (n : ℕ)
    × AreUnits (digits_value (whole ++ fraction)) (length fraction) lowers (digits_value exponent) n
    × (units ≡ signed negative n)

-- the parts are a whole number
abbrev pub AreWhole : List ℕ → List ℕ → Bool → List ℕ → Type 0
AreWhole whole fraction lowers exponent = (k : ℕ)
    × AreUnits (digits_value (whole ++ fraction)) (length fraction) lowers (digits_value exponent) (k * 10 ^ 15)

-- a value of digits is a number times a power of ten, where the number ends in no zero; or it is 0
pub record EndsIn (value : ℕ) (some : Bool) (zeros : ℕ) : Type 0 where
  pub number : ℕ
  pub is : value ≡ number * 10 ^ zeros
  pub ends : MatchBool some (number % 10 ≢ 0) (number ≡ 0)
