-- Tables of ranges of codes in ascending order.
use Rattle.std.specs.Prelude.{ℕ, ◌≤◌, Bool, true, ◌&&◌, nat_le, nat_lt, IsTrue, List, [], ◌∷◌}
use Rattle.std.specs.List.{list_any}
use Rattle.helix_base.specs.Alphabet.{is_in_range}

-- no range has its first code above its last, and each ends below the next one's beginning
abbrev pub are_in_order : List (ℕ × ℕ) → Bool
are_in_order [] = true
are_in_order (range ∷ []) = nat_le range.0 range.1
are_in_order (range ∷ next ∷ ranges) = (nat_le range.0 range.1 && nat_lt range.1 next.0) && are_in_order (next ∷ ranges)

-- the code is in some range
abbrev pub in_ranges : List (ℕ × ℕ) → ℕ → Bool
in_ranges ranges code = list_any (is_in_range code) ranges

-- the least listed code that isn't below a bound
pub record IsLeastFrom (ranges : List (ℕ × ℕ)) (bound code : ℕ) : Type 0 where
  pub listed : IsTrue (in_ranges ranges code)
  pub reached : bound ≤ code
  pub least : (other : ℕ) → IsTrue (in_ranges ranges other) → bound ≤ other → code ≤ other

-- no listed code is that high
abbrev pub EndsBelow : List (ℕ × ℕ) → ℕ → Type 0
EndsBelow ranges bound = (other : ℕ) → IsTrue (in_ranges ranges other) → ¬ (bound ≤ other)
