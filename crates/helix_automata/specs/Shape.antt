-- The shape of an automaton: from each state each character leads to one state.
use Rattle.std.specs.Prelude.{◌≡◌, ℕ, ◌<◌, ◌≤◌, ◌^◌, IsTrue, List, [], ◌∷◌, length, All, Some}
use Rattle.helix_base.specs.Alphabet.{IsCharacterOf}
use Rattle.helix_base.specs.declared.alphabet.Alphabet.TheVariants.{Unicode}
use Rattle.helix_automata.specs.declared.arc.Arc.{Arc}
use Rattle.helix_automata.specs.Automaton.{Automaton, holds, target}

-- a code is a character of the alphabet over which automata work
abbrev pub IsCharacter : ℕ → Type 0
IsCharacter code = IsCharacterOf Unicode code

-- each arc ends below the beginning of the next one
abbrev pub AreInOrder : List Arc → Type 0
AreInOrder [] = Unit {0}
AreInOrder (arc ∷ []) = Unit {0}
AreInOrder (arc ∷ next ∷ arcs) = (arc.last < next.first) × AreInOrder (next ∷ arcs)

-- the arc holds a character
abbrev pub HasCharacter : Arc → Type 0
HasCharacter arc = (code : ℕ) × IsCharacter code × IsTrue (holds code arc)

-- an arc leads on from each character that isn't below a bound
abbrev pub LeadOn : ℕ → List Arc → Type 0
LeadOn bound arcs = (code : ℕ) → IsCharacter code → bound ≤ code → (next : ℕ) × (target arcs code ≡ Some next)

-- the arcs of a state of an automaton with n states
pub record AreArcs (states : ℕ) (arcs : List Arc) : Type 0 where
  pub in_order : AreInOrder arcs
  pub lead_on : LeadOn 0 arcs
  pub used : All HasCharacter arcs
  pub named : All (λ arc. arc.to < states) arcs

-- the start is a state, each state has a flag and arcs, and 32 bits are enough for the numbers of the states
pub record IsWellFormed (automaton : Automaton) : Type 0 where
  pub some : 0 < length automaton.moves
  pub few : length automaton.moves < 2 ^ 32
  pub flags : length automaton.accepting ≡ length automaton.moves
  pub rows : All (AreArcs (length automaton.moves)) automaton.moves
