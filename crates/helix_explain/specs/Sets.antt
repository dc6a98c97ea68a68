-- Sets of constraint numbers, their order, and the core.
use Rattle.std.specs.Prelude.{◌≡◌, ℕ, zero, suc, ◌<◌, ◌≤◌, ◌⊎◌, List, [], ◌∷◌, ◌++◌, reverse}

-- ascending numbers above `low` and at most `most`
abbrev pub AreNumbersAbove : ℕ → ℕ → List ℕ → Type 0
AreNumbersAbove low most [] = Unit {0}
AreNumbersAbove low most (n ∷ ns) = (low < n) × (n ≤ most) × AreNumbersAbove n most ns

-- a set of constraints: ascending numbers from 1 to the number of constraints
abbrev pub AreNumbers : ℕ → List ℕ → Type 0
AreNumbers count numbers = AreNumbersAbove 0 count numbers

-- all of them
abbrev pub numbers_to : ℕ → List ℕ
numbers_to zero = []
numbers_to (suc n) = numbers_to n ++ suc n ∷ []

-- one list is not after another in lexicographic order, where a prefix is before what it begins
abbrev pub IsNotAfter : List ℕ → List ℕ → Type 0
IsNotAfter [] other = Unit {0}
IsNotAfter (n ∷ ns) [] = ⊥
IsNotAfter (n ∷ ns) (m ∷ ms) = (n < m) ⊎ ((n ≡ m) × IsNotAfter ns ms)

-- a set that empties, and written from the greatest number down none that does is before it
pub record IsCore (Empties : List ℕ → Type 0) (count : ℕ) (numbers : List ℕ) : Type 0 where
  pub set : AreNumbers count numbers
  pub empties : Empties numbers
  pub first : (other : List ℕ) → AreNumbers count other → Empties other → IsNotAfter (reverse numbers) (reverse other)
