-- Trails: a word with the states along it.
use Rattle.std.specs.Prelude.{◌≡◌, ℕ, ◌+◌, ◌<◌, Bool, true, false, List, length, slice_index}
use Rattle.helix_automata.specs.Automaton.{Automaton, Leads}
use Rattle.helix_values.specs.declared.cell.Cell.TheVariants as cell
use Rattle.helix_values.specs.Order.{CellLess}
use Rattle.helix_words.specs.Words.{WordSet, IsWord, IsLeastWord}

-- a word, the states before its first character and after each, and how many characters there is room for
pub record Along : Type 0 where
  pub word : List ℕ
  pub states : List ℕ
  pub room : ℕ

-- states along a word: the start, and after each character the state to which it leads
pub record AreAlong (automaton : Automaton) (word states : List ℕ) : Type 0 where
  pub start : slice_index states 0 ≡ 0
  pub as_many : length states ≡ length word + 1
  pub each : (place : ℕ) → place < length word
      → Leads automaton (slice_index states place) (slice_index word place) (slice_index states (place + 1))

-- the trail holds a word of the set and the states along it
pub record IsAlong (words : WordSet) (trail : Along) : Type 0 where
  pub is_word : IsWord words trail.word
  pub along : AreAlong words.automaton trail.word trail.states

-- the trail holds the least of the words of a set that are admitted, in the room that there was
pub record HoldsLeast (words : WordSet) (Admits : List ℕ → Type 0) (old new : Along) : Type 0 where
  pub along : IsAlong words new
  pub room : new.room ≡ old.room
  pub is_least : IsLeastWord words Admits new.word

-- the trail holds the least of the words of a set that are admitted, or there is none and the trail is as it was
abbrev pub IsTrailAnswer : WordSet → (List ℕ → Type 0) → Bool → Along → Along → Type 0
IsTrailAnswer words Admits true old new = HoldsLeast words Admits old new
IsTrailAnswer words Admits false old new = (new ≡ old) × ((word : List ℕ) → IsWord words word → ¬ (Admits word))

-- every word, and the words above one
abbrev pub AnyWord : List ℕ → Type 0
AnyWord word = Unit {0}

abbrev pub IsWordAbove : List ℕ → List ℕ → Type 0
IsWordAbove word other = CellLess (cell.Text word) (cell.Text other)
