-- Walks along a word, and where a greater word of its length branches off.
use Rattle.std.specs.Prelude.{◌≡◌, ◌↔◌, ℕ, ◌-◌, ◌<◌, List, ◌∷◌, ◌++◌, length, take, Option, MatchOption, IsTrue}
use Rattle.helix_automata.specs.Automaton.{Automaton}
use Rattle.helix_words.specs.declared.step.Branch.{Branch}
use Rattle.helix_words.specs.declared.walk.Walk.{Walk}
use Rattle.helix_words.specs.Inner.Paths.{LeadsAlong}
use Rattle.helix_words.specs.Inner.Rests.{IsBefore, IsRest, IsLeastRest, LeadsToRest}

-- a word of the same length that is accepted, above the word
pub record IsAbove (automaton : Automaton) (word other : List ℕ) : Type 0 where
  pub is_rest : IsRest automaton 0 (length word) other
  pub above : IsBefore word other

-- the least of those that don't begin as the word does, up to a place
pub record IsLeastOff (automaton : Automaton) (word : List ℕ) (place : ℕ) (other : List ℕ) : Type 0 where
  pub is_above : IsAbove automaton word other
  pub least : (third : List ℕ) → IsAbove automaton word third → ¬ (take place third ≡ take place word)
      → ¬ (IsBefore third other)

-- the step of a branch leads from the state that the word reaches there to one with a rest of the length that is left
pub record StepsOff (automaton : Automaton) (word : List ℕ) (branch : Branch) : Type 0 where
  pub within : branch.place < length word
  pub state : ℕ
  pub reached : LeadsAlong automaton 0 (take branch.place word) state
  pub goes_on : LeadsToRest automaton state (length word - branch.place - 1) branch.step
  pub to_within : branch.step.to < length automaton.moves

-- a branch before a place: with the least rest after its step, a word is the least of those
pub record IsBranchBefore (automaton : Automaton) (word : List ℕ) (place : ℕ) (branch : Branch) : Type 0 where
  pub steps_off : StepsOff automaton word branch
  pub least : (rest : List ℕ) → IsLeastRest automaton branch.step.to (length word - branch.place - 1) rest
      → IsLeastOff automaton word place (take branch.place word ++ branch.step.character ∷ rest)

-- such a branch, or all words above begin as the word does, up to the place
abbrev pub IsBranchUpTo : Automaton → List ℕ → ℕ → Option Branch → Type 0
IsBranchUpTo automaton word place branch =
    MatchOption branch ((other : List ℕ) → IsAbove automaton word other → take place other ≡ take place word)
    (IsBranchBefore automaton word place)

-- the least word above
pub record IsLeastAbove (automaton : Automaton) (word other : List ℕ) : Type 0 where
  pub is_above : IsAbove automaton word other
  pub least : (third : List ℕ) → IsAbove automaton word third → ¬ (IsBefore third other)

-- with the least rest after its step, a branch gives the least word above
pub record IsLeastBranch (automaton : Automaton) (word : List ℕ) (branch : Branch) : Type 0 where
  pub steps_off : StepsOff automaton word branch
  pub least : (rest : List ℕ) → IsLeastRest automaton branch.step.to (length word - branch.place - 1) rest
      → IsLeastAbove automaton word (take branch.place word ++ branch.step.character ∷ rest)

-- the branch, or no word is above
abbrev pub IsBranchOf : Automaton → List ℕ → Option Branch → Type 0
IsBranchOf automaton word branch =
    MatchOption branch ((other : List ℕ) → ¬ (IsAbove automaton word other)) (IsLeastBranch automaton word)

-- what a walk along a word finds
pub record IsWalkAlong (automaton : Automaton) (word : List ℕ) (walk : Walk) : Type 0 where
  pub accepted : IsTrue walk.accepted ↔ IsRest automaton 0 (length word) word
  pub branch : IsBranchOf automaton word walk.branch
