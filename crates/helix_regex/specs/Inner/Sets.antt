-- Sets of characters as lists of ranges. Only the crate's private clauses cite it.
use Rattle.std.specs.Prelude.{◌≡◌, ℕ, ◌-◌, ◌≤◌, max, nat_le, nat_lt, ◌||◌, ◌&&◌, not, if◌then◌else◌, Bool, Option, Some, None, List, [], ◌∷◌}
use Rattle.helix_base.specs.Ranges.{in_ranges}
use Rattle.helix_regex.specs.Characters.{is_character}

-- a list has what another has, and a set besides
pub record Gains (set : ℕ → Bool) (old new : List (ℕ × ℕ)) : Type 0 where
  pub all : (c : ℕ) → in_ranges new c ≡ (in_ranges old c || set c)

-- all characters but those of some ranges
abbrev pub GainsAllBut : List (ℕ × ℕ) → List (ℕ × ℕ) → List (ℕ × ℕ) → Type 0
GainsAllBut ranges old new = Gains (λ c. is_character c && not (in_ranges ranges c)) old new

-- no range begins before the one before it
abbrev pub Ascending : List (ℕ × ℕ) → Type 0
Ascending [] = Unit {0}
Ascending (r ∷ []) = Unit {0}
Ascending (r ∷ s ∷ ranges) = (r.0 ≤ s.0) × Ascending (s ∷ ranges)

-- the second begins in the first, or just after it
abbrev pub touches : ℕ × ℕ → ℕ × ℕ → Bool
touches x r = nat_le (r.0 - x.1) 1

-- the ranges after one that is still open, joined where they touch
abbrev pub joined : ℕ × ℕ → List (ℕ × ℕ) → List (ℕ × ℕ)
joined x [] = x ∷ []
joined x (r ∷ ranges) = if nat_lt r.1 r.0 then joined x ranges
    else if touches x r then joined (x.0, max x.1 r.1) ranges
    else x ∷ joined r ranges

abbrev pub joined_from : Option (ℕ × ℕ) → List (ℕ × ℕ) → List (ℕ × ℕ)
joined_from (Some x) ranges = joined x ranges
joined_from None [] = []
joined_from None (r ∷ ranges) = if nat_lt r.1 r.0 then joined_from None ranges else joined r ranges
