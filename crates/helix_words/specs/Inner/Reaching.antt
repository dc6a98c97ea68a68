-- The arcs that reach a code, and the characters that they hold from there on.
use Rattle.std.specs.Prelude.{◌≡◌, ℕ, ◌+◌, ◌<◌, ◌≤◌, true, List, length, drop, take, get_or, All, IfSome, IfNone}
use Rattle.std.specs.List.{AllPairs}
use Rattle.helix_automata.specs.declared.arc.Arc.{Arc}
use Rattle.helix_automata.specs.Automaton.{Automaton, holds, most_arcs}
use Rattle.helix_automata.specs.Shape.{IsCharacter}
use Rattle.helix_words.specs.declared.step.Step.{Step}
use Rattle.helix_words.specs.declared.fork.Fork.{Fork}
use Rattle.helix_words.specs.Words.{WordSet}
use Rattle.helix_words.specs.Inner.Rests.{LeadsToRest, IsStepFrom}
use Rattle.helix_words.specs.Inner.Tables.{IsArcFrom}

-- the arcs from the first one on that doesn't end below the code
pub record AreReaching (arcs : List Arc) (code : ℕ) (reaching : List Arc) : Type 0 where
  pub skipped : ℕ
  pub within : skipped ≤ length arcs
  pub are : reaching ≡ drop skipped arcs
  pub below : All (λ arc. arc.last < code) (take skipped arcs)
  pub reaches : (d : Arc) → 0 < length reaching → code ≤ (get_or reaching 0 d).last

-- some arc holds the code
abbrev pub IsHeld : ℕ → List Arc → Type 0
IsHeld code arcs = (i : ℕ) × (i < length arcs) × ((d : Arc) → holds code (get_or arcs i d) ≡ true)

-- arcs of a state, in order, among them all that hold a character from a code on and lead to a rest of some length
pub record AreArcsTo (automaton : Automaton) (state from rest : ℕ) (arcs : List Arc) : Type 0 where
  pub each : All (IsArcFrom automaton state) arcs
  pub in_order : AllPairs (λ one later. one.last < later.first) arcs
  pub all : (other : Step) → LeadsToRest automaton state rest other → from ≤ other.character
      → IsHeld other.character arcs

-- the same from a code on and from each greater one, for all lengths, and the first arc doesn't end below the code
pub record AreArcsOnFrom (words : WordSet) (state code : ℕ) (arcs : List Arc) : Type 0 where
  pub each : All (IsArcFrom words.automaton state) arcs
  pub are : (from rest : ℕ) → code ≤ from → rest < words.longest → AreArcsTo words.automaton state from rest arcs
  pub few : length arcs ≤ most_arcs words.automaton
  pub reaches : (d : Arc) → 0 < length arcs → code ≤ (get_or arcs 0 d).last

-- the first of some arcs
abbrev pub first_of : List Arc → Arc
first_of arcs = get_or arcs 0 (record { first = 0; last = 0; to = 0 })

-- the arc holds a code and the next one, and both are printable ASCII
pub record GoesOn (arc : Arc) (code : ℕ) : Type 0 where
  pub first_low : arc.first ≤ code
  pub last_high : code < arc.last
  pub printable : 0x20 ≤ code
  pub next_printable : code < 0x7E

-- the least character from a code on that the arc holds
pub record IsLeastIn (arc : Arc) (from character : ℕ) : Type 0 where
  pub is_character : IsCharacter character
  pub reached : from ≤ character
  pub held : holds character arc ≡ true
  pub least : (other : ℕ) → IsCharacter other → from ≤ other → holds other arc ≡ true → character ≤ other

-- the state to which a character leads, where it leads to a rest of some length, and the least such step above it
pub record IsFork (automaton : Automaton) (state code rest : ℕ) (fork : Fork) : Type 0 where
  pub along : IfSome fork.along (λ to. LeadsToRest automaton state rest (record { character = code; to = to }))
  pub within : IfSome fork.along (λ to. to < length automaton.moves)
  pub stuck : IfNone fork.along ((to : ℕ) → ¬ LeadsToRest automaton state rest (record { character = code; to = to }))
  pub above : IsStepFrom automaton state (code + 1) rest fork.above
