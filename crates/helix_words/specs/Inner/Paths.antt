-- Paths of an automaton.
use Rattle.std.specs.Prelude.{◌≡◌, ℕ, List, [], ◌∷◌}
use Rattle.helix_automata.specs.Automaton.{Automaton, Leads}

-- the word leads from a state to an end
abbrev pub LeadsAlong : Automaton → ℕ → List ℕ → ℕ → Type 0
LeadsAlong automaton state [] end = state ≡ end
LeadsAlong automaton state (code ∷ word) end = (next : ℕ) × Leads automaton state code next
    × LeadsAlong automaton next word end
