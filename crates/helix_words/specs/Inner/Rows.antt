-- Rows of arcs in one list.
use Rattle.std.specs.Prelude.{◌≡◌, ℕ, ◌+◌, ◌<◌, ◌≤◌, List, [], length, get_or, slice_index, slice_range}
use Rattle.std.specs.List.{filter}
use Rattle.helix_automata.specs.declared.arc.Arc.{Arc}
use Rattle.helix_words.specs.declared.rows.Rows.{Rows}
use Rattle.helix_words.specs.Inner.Table.{has_bit}

-- the arcs of a state: from where they start to where those of the next state do
abbrev pub row_of : List ℕ → List Arc → ℕ → List Arc
row_of starts arcs state = slice_range arcs (slice_index starts state) (slice_index starts (state + 1))

-- the arcs that lead to a state with a bit
abbrev pub live_arcs : List (List ℕ) → List Arc → List Arc
live_arcs blocks arcs = filter (λ arc. has_bit blocks arc.to) arcs

-- where the arcs of the states below a bound are, and that they are those of the moves that lead to a state with a bit
pub record AreRowsUpTo (blocks : List (List ℕ)) (moves : List (List Arc)) (bound : ℕ) (starts : List ℕ)
    (arcs : List Arc) : Type 0 where
  pub as_many : length starts ≡ bound + 1
  pub last : slice_index starts bound ≡ length arcs
  pub rise : (state : ℕ) → state < bound → slice_index starts state ≤ slice_index starts (state + 1)
  pub within : (state : ℕ) → state < bound → slice_index starts (state + 1) ≤ length arcs
  pub are : (state : ℕ) → state < bound → row_of starts arcs state ≡ live_arcs blocks (get_or moves state [])

-- the same of all states
abbrev pub AreRowsWith : List (List ℕ) → List (List Arc) → Rows → Type 0
AreRowsWith blocks moves rows = AreRowsUpTo blocks moves (length moves) rows.starts rows.arcs
