-- Sets of words: what an automaton accepts, of allowed length.
use Rattle.std.specs.Prelude.{ℕ, ◌≤◌, List, length}
use Rattle.std.specs.List.{All, Contains}
use Rattle.helix_automata.specs.Automaton.{Automaton, Accepts}
use Rattle.helix_automata.specs.Shape.{IsCharacter}
use Rattle.helix_values.specs.declared.cell.Cell.{Cell}
use Rattle.helix_values.specs.declared.cell.Cell.TheVariants as cell
use Rattle.helix_values.specs.Order.{CellLess}

-- an automaton, the least and the greatest length, and lengths between them that are refused
pub record WordSet : Type 0 where
  pub automaton : Automaton
  pub shortest : ℕ
  pub longest : ℕ
  pub refused : List ℕ

-- a word of the set
pub record IsWord (words : WordSet) (word : List ℕ) : Type 0 where
  pub characters : All IsCharacter word
  pub accepted : Accepts words.automaton word
  pub not_short : words.shortest ≤ length word
  pub not_long : length word ≤ words.longest
  pub not_refused : ¬ Contains words.refused (length word)

-- a cell that holds a word of the set
abbrev pub IsWordCell : WordSet → Cell → Type 0
IsWordCell words (cell.Text word) = IsWord words word
IsWordCell words other = ⊥

-- no word of the set has more characters
abbrev pub HasRoomFor : WordSet → ℕ → Type 0
HasRoomFor words room = (word : List ℕ) → IsWord words word → length word ≤ room

-- the least of the words of a set that are admitted
pub record IsLeastWord (words : WordSet) (Admits : List ℕ → Type 0) (word : List ℕ) : Type 0 where
  pub is_word : IsWord words word
  pub admitted : Admits word
  pub least : (other : List ℕ) → IsWord words other → Admits other → ¬ (CellLess (cell.Text other) (cell.Text word))
