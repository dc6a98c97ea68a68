-- Columns: for each state, whether it has a rest of some length.
use Rattle.std.specs.Prelude.{ℕ, zero, suc, Bool, false, List, map, get_or}
use Rattle.std.specs.List.{list_any}
use Rattle.helix_automata.specs.declared.arc.Arc.{Arc}
use Rattle.helix_automata.specs.Automaton.{Automaton}

-- whether some arc leads to a state with a flag
abbrev pub leads_to : List Bool → List Arc → Bool
leads_to flags arcs = list_any (λ arc. get_or flags arc.to false) arcs

-- the column of lengths that are one greater
abbrev pub column_before : List (List Arc) → List Bool → List Bool
column_before moves flags = map (leads_to flags) moves

-- the column of a length
abbrev pub column : Automaton → ℕ → List Bool
column automaton zero = automaton.accepting
column automaton (suc count) = column_before automaton.moves (column automaton count)
