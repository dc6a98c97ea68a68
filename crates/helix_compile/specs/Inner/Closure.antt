-- The epsilon closure of a set of states.
use Rattle.std.specs.Prelude.{◌≡◌, ◌⊎◌, ℕ, Option, Some, None, List, Contains, slice_get}
use Rattle.helix_compile.specs.declared.nfa.State.{State}
use Rattle.helix_compile.specs.declared.nfa.State.TheVariants.{Accept, AcceptAll, Fail, Read, Split}

-- the state accepts or reads a character
abbrev pub IsKept : Option State → Type 0
IsKept None = ⊥
IsKept (Some Accept) = Unit {0}
IsKept (Some AcceptAll) = Unit {0}
IsKept (Some Fail) = ⊥
IsKept (Some (Read ranges next)) = Unit {0}
IsKept (Some (Split one other)) = ⊥

-- the state is a split with this side
abbrev pub SplitsTo : Option State → ℕ → Type 0
SplitsTo None side = ⊥
SplitsTo (Some Accept) side = ⊥
SplitsTo (Some AcceptAll) side = ⊥
SplitsTo (Some Fail) side = ⊥
SplitsTo (Some (Read ranges next)) side = ⊥
SplitsTo (Some (Split one other)) side = (side ≡ one) ⊎ (side ≡ other)

-- each number keeps its index
abbrev pub KeepTheirIndex : List ℕ → List ℕ → Type 0
KeepTheirIndex old new = (index number : ℕ) → slice_get old index ≡ Some number → slice_get new index ≡ Some number

-- a state was visited: if it is a split, its sides have been seen, and if it is kept, it was found
pub record Visits (state : Option State) (number : ℕ) (seen new_seen found new_found : List ℕ) : Type 0 where
  pub extends : KeepTheirIndex seen new_seen
  pub sides : (side : ℕ) → SplitsTo state side → Contains new_seen side
  pub only_sides : (other : ℕ) → Contains new_seen other → Contains seen other ⊎ SplitsTo state other
  pub keeps : (other : ℕ) → Contains found other → Contains new_found other
  pub rest : IsKept state → Contains new_found number
  pub only_rest : (other : ℕ) → Contains new_found other → Contains found other ⊎ ((other ≡ number) × IsKept state)
