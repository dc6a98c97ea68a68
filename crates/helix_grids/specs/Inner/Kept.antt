-- The values of a list that a condition keeps.
use Rattle.std.specs.Prelude.{◌↔◌, ℤ, List}
use Rattle.std.specs.List.{Contains}
use Rattle.helix_grids.specs.Inner.Sieve.{AreAscending}

-- the values of one list that meet a condition, in order where the list is
pub record AreKept (Keeps : ℤ → Type 0) (values kept : List ℤ) : Type 0 where
  pub exact : (v : ℤ) → Contains kept v ↔ (Contains values v × Keeps v)
  pub ascending : AreAscending values → AreAscending kept
