-- Texts and trails with a rest added.
use Rattle.std.specs.Prelude.{◌≡◌, ℕ, ◌+◌, ◌≤◌, Bool, true, false, List, ◌++◌, length, slice_index}
use Rattle.helix_automata.specs.Automaton.{Automaton}
use Rattle.helix_values.specs.declared.cell.Cell.{Cell}
use Rattle.helix_values.specs.declared.cell.Cell.TheVariants as cell
use Rattle.helix_values.specs.Order.{CellLess}
use Rattle.helix_words.specs.Words.{WordSet, IsWord, IsLeastWord}
use Rattle.helix_words.specs.Trails.{Along, AreAlong}
use Rattle.helix_words.specs.Inner.Rests.{IsLeastRest}
use Rattle.helix_words.specs.Inner.Walks.{IsLeastAbove}

-- a text with more characters
abbrev pub with_rest : Cell → List ℕ → Cell
with_rest (cell.Text characters) rest = cell.Text (characters ++ rest)
with_rest other rest = other

-- a text that has room for more characters
abbrev pub HasRoomForMore : ℕ → Cell → Type 0
HasRoomForMore count (cell.Text characters) = length characters + count ≤ 1000
HasRoomForMore count other = ⊥

-- the least rest of a state is added to the text
pub record AddsLeast (automaton : Automaton) (state count : ℕ) (old new : Cell) : Type 0 where
  pub rest : List ℕ
  pub is_least : IsLeastRest automaton state count rest
  pub is : new ≡ with_rest old rest

-- the least rest of the trail's last state is added to the trail
pub record Extends (automaton : Automaton) (count : ℕ) (old new : Along) : Type 0 where
  pub rest : List ℕ
  pub is_least : IsLeastRest automaton (slice_index old.states (length old.word)) count rest
  pub word : new.word ≡ old.word ++ rest
  pub along : AreAlong automaton new.word new.states
  pub room : new.room ≡ old.room

-- the slot holds the least word of the same length above a word
pub record PutsLeastAbove (automaton : Automaton) (word : List ℕ) (new : Cell) : Type 0 where
  pub above : List ℕ
  pub is : new ≡ cell.Text above
  pub is_least : IsLeastAbove automaton word above

-- the trail holds the least word of the same length above the word that it held
pub record TakesLeastAbove (automaton : Automaton) (old new : Along) : Type 0 where
  pub is_least : IsLeastAbove automaton old.word new.word
  pub along : AreAlong automaton new.word new.states
  pub room : new.room ≡ old.room

-- the slot holds the least of the words of a set that are admitted, or there is none and the slot is as it was
pub record PutsLeast (words : WordSet) (Admits : List ℕ → Type 0) (new : Cell) : Type 0 where
  pub word : List ℕ
  pub is : new ≡ cell.Text word
  pub is_least : IsLeastWord words Admits word

abbrev pub IsWordAnswer : WordSet → (List ℕ → Type 0) → Bool → Cell → Cell → Type 0
IsWordAnswer words Admits true old new = PutsLeast words Admits new
IsWordAnswer words Admits false old new = (new ≡ old) × ((word : List ℕ) → IsWord words word → ¬ (Admits word))

-- the words that aren't below a cell, or those above it
abbrev pub IsFrom : Bool → Cell → List ℕ → Type 0
IsFrom true bound word = CellLess bound (cell.Text word)
IsFrom false bound word = ¬ (CellLess (cell.Text word) bound)

-- those of them that are as long as a text
abbrev pub IsAlikeFrom : Bool → List ℕ → List ℕ → Type 0
IsAlikeFrom strict text word = (length word ≡ length text) × IsFrom strict (cell.Text text) word

-- the words with at least a number of characters
abbrev pub IsLongFrom : ℕ → List ℕ → Type 0
IsLongFrom count word = count ≤ length word
