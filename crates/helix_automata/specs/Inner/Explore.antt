-- The states of a machine, numbered as they are met.
use Rattle.std.specs.Prelude.{◌≡◌, ◌↔◌, ◌≤◌, ℕ, Some, List, ◌∷◌, length, slice_get}
use Rattle.helix_automata.specs.declared.arc.Arc.{Arc}
use Rattle.helix_automata.specs.Automaton.{target}
use Rattle.helix_automata.specs.Machine.{FallsAt}
use Rattle.helix_automata.specs.Shape.{IsCharacter, AreArcs}

-- each state keeps its number
abbrev pub KeepTheirNumbers : {S : Type 0} → List S → List S → Type 0
KeepTheirNumbers {S} old new = (number : ℕ) (state : S) → slice_get old number ≡ Some state
    → slice_get new number ≡ Some state

-- each of them is a state
abbrev pub AreStates : {S : Type 0} → (S → Type 0) → List S → Type 0
AreStates {S} IsState states = (number : ℕ) (state : S) → slice_get states number ≡ Some state → IsState state

-- a code leads along the arcs to the number of a state that accepts what is left
pub record LeadsToOneOf {S : Type 0} (Words : S → List ℕ → Type 0) (state : S) (states : List S) (arcs : List Arc)
    (code : ℕ) : Type 0 where
  pub number : ℕ
  pub next : S
  pub is_number : target arcs code ≡ Some number
  pub is_next : slice_get states number ≡ Some next
  pub leads : (word : List ℕ) → Words next word ↔ Words state (code ∷ word)

-- the arcs of a state, by the numbers of states
pub record AreArcsOf {S : Type 0} (Words : S → List ℕ → Type 0) (state : S) (states : List S)
    (arcs : List Arc) : Type 0 where
  pub shape : AreArcs (length states) arcs
  pub leads : (code : ℕ) → IsCharacter code → LeadsToOneOf Words state states arcs code

-- the arcs of the state with a number
abbrev pub AreStateArcs : {S : Type 0} → (S → List ℕ → Type 0) → List S → ℕ → List S → List Arc → Type 0
AreStateArcs {S} Words old number states arcs = (state : S) → slice_get old number ≡ Some state
    → AreArcsOf Words state states arcs

-- there are at most as many arcs as the bound of a measure that falls at the ends of steps from the state with a number
abbrev pub AreFew : {S : Type 0} → (S → ℕ → Type 0) → List S → ℕ → List Arc → Type 0
AreFew {S} IsEnd states number arcs = (state : S) (left : ℕ → ℕ) (most : ℕ) → slice_get states number ≡ Some state
    → FallsAt (IsEnd state) left → ((code : ℕ) → IsCharacter code → left code ≤ most) → length arcs ≤ most
