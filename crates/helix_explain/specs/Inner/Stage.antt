-- How far the search for a core has come.
use Rattle.std.specs.Prelude.{ℕ, suc, ◌<◌, List, [], ◌∷◌, ◌++◌, reverse}
use Rattle.helix_explain.specs.Sets.{numbers_to, IsNotAfter}

-- descending numbers above `low` and below `bound`
abbrev pub AreDescending : ℕ → ℕ → List ℕ → Type 0
AreDescending low bound [] = Unit {0}
AreDescending low bound (n ∷ ns) = (low < n) × (n < bound) × AreDescending low n ns

-- the numbers up to one, and then those that are chosen above it
abbrev pub set_of : ℕ → List ℕ → List ℕ
set_of undecided chosen = numbers_to undecided ++ reverse chosen

-- The numbers above `undecided` are decided, from the greatest down: with those that are chosen the rest empties, and
-- no set that empties has numbers `high` above it, and others `low`, that are before the chosen ones.
pub record IsStage (Empties : List ℕ → Type 0) (count undecided : ℕ) (chosen : List ℕ) : Type 0 where
  pub descending : AreDescending undecided (suc count) chosen
  pub empties : Empties (set_of undecided chosen)
  pub first : (high low : List ℕ) → AreDescending undecided (suc count) high → AreDescending 0 (suc undecided) low
      → Empties (reverse (high ++ low)) → IsNotAfter chosen high
