-- Deterministic automata over the characters of Unicode: their moves, and the words that they accept.
use Rattle.std.specs.Prelude.{◌≡◌, ℕ, ◌&&◌, nat_le, if◌then◌else◌, Bool, true, Option, Some, None, List, [], ◌∷◌, length, max, slice_get, get_or}
use Rattle.helix_automata.specs.declared.arc.Arc.{Arc}

-- the arcs of each state, and which states accept; state 0 is the start
pub record Automaton : Type 0 where
  pub moves : List (List Arc)
  pub accepting : List Bool

-- an arc holds the codes from its first to its last
abbrev pub holds : ℕ → Arc → Bool
holds code arc = nat_le arc.first code && nat_le code arc.last

-- the state to which the arc that holds the code leads
abbrev pub target : List Arc → ℕ → Option ℕ
target [] code = None
target (arc ∷ arcs) code = if holds code arc then Some arc.to else target arcs code

-- the arcs of a state
abbrev pub arcs_of : Automaton → ℕ → List Arc
arcs_of automaton state = get_or automaton.moves state []

-- a code leads from a state to the next one
abbrev pub Leads : Automaton → ℕ → ℕ → ℕ → Type 0
Leads automaton state code next = target (arcs_of automaton state) code ≡ Some next

-- the state accepts
abbrev pub IsAccepting : Automaton → ℕ → Type 0
IsAccepting automaton state = slice_get automaton.accepting state ≡ Some true

-- from a state on, the word leads to one that accepts
abbrev pub AcceptsFrom : Automaton → ℕ → List ℕ → Type 0
AcceptsFrom automaton state [] = IsAccepting automaton state
AcceptsFrom automaton state (code ∷ word) = (next : ℕ) × Leads automaton state code next
    × AcceptsFrom automaton next word

-- the word leads from the start to a state that accepts
abbrev pub Accepts : Automaton → List ℕ → Type 0
Accepts automaton word = AcceptsFrom automaton 0 word

-- the greatest number of arcs in some lists of arcs
abbrev pub most_in : List (List Arc) → ℕ
most_in [] = 0
most_in (arcs ∷ rows) = max (length arcs) (most_in rows)

-- the greatest number of arcs that a state has
abbrev pub most_arcs : Automaton → ℕ
most_arcs automaton = most_in automaton.moves
