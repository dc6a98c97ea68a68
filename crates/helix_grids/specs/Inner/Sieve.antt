-- What the excluded values leave of a window.
use Rattle.std.specs.Prelude.{◌≡◌, ℕ, ℤ, ◌<◌, ◌≤ℤ◌, ◌<ℤ◌, ◌⊎◌, List, Option, None, Some, length, slice_index_or}
use Rattle.std.specs.List.{Contains, HoldsAt}
use Rattle.std.specs.List.Sorted.{IsSorted}
use Rattle.std.specs.Ordering.{int_cmp}
use Rattle.helix_ladders.specs.Scale.{Ladder}
use Rattle.helix_grids.specs.declared.window.Window.{Window}
use Rattle.helix_grids.specs.Tests.{IsLeastOf}
use Rattle.helix_grids.specs.Inner.Window.{IsInWindow}

-- no number is below the one before it
abbrev pub AreAscending : List ℤ → Type 0
AreAscending values = IsSorted int_cmp values

-- a value of a window that isn't excluded
abbrev pub IsSifted : Ladder → Window → List ℤ → ℤ → Type 0
IsSifted ladder window excluded v = IsInWindow ladder window v × (¬ Contains excluded v)

-- to each excluded value from a bound on, the least value above it that isn't excluded
abbrev pub AreNext : Ladder → Window → List ℤ → List (Option ℤ) → ℤ → Type 0
AreNext ladder window excluded next bound =
    (k : ℕ) (d : ℤ) → k < length excluded → bound ≤ℤ slice_index_or excluded k d →
    IsLeastOf (λ v. IsSifted ladder window excluded v × (slice_index_or excluded k d <ℤ v)) (slice_index_or next k None)

-- a value that isn't excluded, or what is next to it where it is
abbrev pub IsItOrNext : List ℤ → List (Option ℤ) → ℤ → Option ℤ → Type 0
IsItOrNext excluded next value result =
    ((¬ Contains excluded value) × (result ≡ Some value)) ⊎
    ((k : ℕ) × (k < length excluded) × HoldsAt (λ y. y ≡ value) excluded k × (result ≡ slice_index_or next k None))
