-- Sums of products.
use Rattle.std.specs.Prelude.{ℕ, ◌+◌, ◌*◌, List, ◌∷◌}

-- each weight times the value at its place, added
abbrev pub weighted_sum : List ℕ → List ℕ → ℕ
weighted_sum (weight ∷ weights) (value ∷ values) = weight * value + weighted_sum weights values
weighted_sum weights values = 0
