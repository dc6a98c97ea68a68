-- What a question looks at: arcs that lead on, a table of the lengths of rests, and the lengths of words.
use Rattle.std.specs.Prelude.{◌≡◌, ℕ, ◌+◌, ◌<◌, ◌≤◌, true, List, length, slice_index}
use Rattle.std.specs.List.{All, AllPairs, Contains}
use Rattle.helix_automata.specs.declared.arc.Arc.{Arc}
use Rattle.helix_automata.specs.Automaton.{Automaton, Leads, holds, most_arcs}
use Rattle.helix_automata.specs.Shape.{IsWellFormed}
use Rattle.helix_words.specs.declared.rows.Rows.{Rows}
use Rattle.helix_words.specs.declared.table.Table.{Table}
use Rattle.helix_words.specs.Words.{WordSet}
use Rattle.helix_words.specs.Inner.Rows.{row_of}
use Rattle.helix_words.specs.Inner.Rests.{HasRest}
use Rattle.helix_words.specs.Inner.Blocks.{IsTableOf}
use Rattle.helix_words.specs.Inner.Lengths.{AreLengths}

-- each code of an arc leads to its state
pub record IsArcFrom (automaton : Automaton) (state : ℕ) (arc : Arc) : Type 0 where
  pub within : arc.to < length automaton.moves
  pub leads : (code : ℕ) → holds code arc ≡ true → Leads automaton state code arc.to

-- arcs of a state, in order, among them all that lead to rests of fewer characters than a bound
pub record AreArcsFrom (automaton : Automaton) (longest state : ℕ) (arcs : List Arc) : Type 0 where
  pub each : All (IsArcFrom automaton state) arcs
  pub in_order : AllPairs (λ one later. one.last < later.first) arcs
  pub few : length arcs ≤ most_arcs automaton
  pub all : (code next count : ℕ) → Leads automaton state code next → count < longest → HasRest automaton next count
      → (arc : Arc) × Contains arcs arc × (holds code arc ≡ true)

-- the same for each state
pub record AreRowsOf (automaton : Automaton) (longest : ℕ) (rows : Rows) : Type 0 where
  pub as_many : length rows.starts ≡ length automaton.moves + 1
  pub rise : (state : ℕ) → state < length automaton.moves
      → slice_index rows.starts state ≤ slice_index rows.starts (state + 1)
  pub within : (state : ℕ) → state < length automaton.moves → slice_index rows.starts (state + 1) ≤ length rows.arcs
  pub are : (state : ℕ) → state < length automaton.moves
      → AreArcsFrom automaton longest state (row_of rows.starts rows.arcs state)

-- some word of the set has this length
pub record IsLengthOf (words : WordSet) (count : ℕ) : Type 0 where
  pub not_short : words.shortest ≤ count
  pub not_long : count ≤ words.longest
  pub not_refused : ¬ Contains words.refused count
  pub has_rest : HasRest words.automaton 0 count

-- the least number of characters from one on that some word of the set has, and the start is a state
pub record IsLengthFrom (words : WordSet) (from count : ℕ) : Type 0 where
  pub start : 0 < length words.automaton.moves
  pub is_length : IsLengthOf words count
  pub few : count ≤ 1000
  pub high : from ≤ count
  pub least : (other : ℕ) → IsLengthOf words other → from ≤ other → count ≤ other

-- no word of the set has as many characters
abbrev pub HasNoLengthFrom : WordSet → ℕ → Type 0
HasNoLengthFrom words from = (other : ℕ) → IsLengthOf words other → ¬ (from ≤ other)

-- the arcs, the table and the lengths of a set of words
pub record AreTables (words : WordSet) (rows : Rows) (table : Table) (lengths : List ℕ) : Type 0 where
  pub well_formed : IsWellFormed words.automaton
  pub short : words.longest ≤ 1000
  pub are_rows : AreRowsOf words.automaton words.longest rows
  pub is_table : IsTableOf words.automaton words.longest table
  pub are_lengths : AreLengths (IsLengthOf words) lengths
