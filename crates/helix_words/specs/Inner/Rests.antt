-- Rests: what an automaton accepts from a state on, by length, and the least of them.
use Rattle.std.specs.Prelude.{◌≡◌, ℕ, ◌<◌, ◌≤◌, List, length, IfSome, IfNone, Option}
use Rattle.std.specs.List.{All}
use Rattle.std.specs.Ordering.{nat_cmp}
use Rattle.std.specs.declared.cmp.Ordering.TheVariants.{Less}
use Rattle.std.specs.Cmp.Lexicographic.{slice_cmp}
use Rattle.helix_automata.specs.Automaton.{Automaton, AcceptsFrom, Leads}
use Rattle.helix_automata.specs.Shape.{IsCharacter}
use Rattle.helix_words.specs.declared.step.Step.{Step}

-- words of one length in the order of their characters
abbrev pub IsBefore : List ℕ → List ℕ → Type 0
IsBefore one other = slice_cmp nat_cmp one other ≡ Less

-- a rest of some length: characters that lead from the state to one that accepts
pub record IsRest (automaton : Automaton) (state count : ℕ) (rest : List ℕ) : Type 0 where
  pub characters : All IsCharacter rest
  pub long : length rest ≡ count
  pub accepted : AcceptsFrom automaton state rest

-- some rest has this length
abbrev pub HasRest : Automaton → ℕ → ℕ → Type 0
HasRest automaton state count = (rest : List ℕ) × IsRest automaton state count rest

-- the least rest of some length
pub record IsLeastRest (automaton : Automaton) (state count : ℕ) (rest : List ℕ) : Type 0 where
  pub is_rest : IsRest automaton state count rest
  pub least : (other : List ℕ) → IsRest automaton state count other → ¬ (IsBefore other rest)

-- a character leads from the state to one that has a rest of some length
pub record LeadsToRest (automaton : Automaton) (state count : ℕ) (step : Step) : Type 0 where
  pub is_character : IsCharacter step.character
  pub leads : Leads automaton state step.character step.to
  pub has_rest : HasRest automaton step.to count

-- the least such character that isn't below a code
pub record IsLeastStep (automaton : Automaton) (state from count : ℕ) (step : Step) : Type 0 where
  pub goes_on : LeadsToRest automaton state count step
  pub to_within : step.to < length automaton.moves
  pub reached : from ≤ step.character
  pub least : (other : Step) → LeadsToRest automaton state count other → from ≤ other.character
      → step.character ≤ other.character

-- the least such character, or there is none
pub record IsStepFrom (automaton : Automaton) (state from count : ℕ) (answer : Option Step) : Type 0 where
  pub some : IfSome answer (IsLeastStep automaton state from count)
  pub none : IfNone answer ((other : Step) → LeadsToRest automaton state count other → ¬ (from ≤ other.character))
