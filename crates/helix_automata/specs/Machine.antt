-- Machines whose states are of any type.
use Rattle.std.specs.Prelude.{ℕ, ◌<◌, ◌≤◌, ◌↔◌, List, ◌∷◌}
use Rattle.helix_automata.specs.Shape.{IsCharacter}

-- the characters from the first code to the last one lead from a state to the next one: the next one accepts a word
-- exactly where the state accepts the character and then the word
pub record LeadsOn {S : Type 0} (IsState : S → Type 0) (Words : S → List ℕ → Type 0) (state : S) (first last : ℕ)
    (next : S) : Type 0 where
  pub reached : first ≤ last
  pub is_state : IsState next
  pub leads : (code : ℕ) → IsCharacter code → first ≤ code → code ≤ last → (word : List ℕ) → Words next word
      ↔ Words state (code ∷ word)

-- a measure is less above an end than at each character that isn't above it
abbrev pub FallsAt : (ℕ → Type 0) → (ℕ → ℕ) → Type 0
FallsAt IsEnd left = (last code other : ℕ) → IsEnd last → IsCharacter code → code ≤ last → last < other
    → left other < left code

-- each state has a measure that falls so at the ends of its steps, and that is at most a bound
abbrev pub EndsAtMost : {S : Type 0} → (S → Type 0) → (S → ℕ → Type 0) → ℕ → Type 0
EndsAtMost {S} IsState IsEnd most = (state : S) → IsState state → (left : ℕ → ℕ) × FallsAt (IsEnd state) left
    × ((code : ℕ) → IsCharacter code → left code ≤ most)
