use Rattle.std.proofs.Common.{ℕ, ◌<◌, ◌≤◌, List, length, get_or}
use Rattle.helix_automata.specs.declared.arc.Arc.{Arc}
use Rattle.helix_values.specs.Counts.{characters}
use Rattle.helix_domains.proofs.patterns.see_arcs.Given as goal

abbrev pub invariant-loop-state : goal.invariant-loop-state
invariant-loop-state l = (k : ℕ) (d : List Arc) → k < l.state → length (get_or l.dfa.moves k d) ≤ characters
