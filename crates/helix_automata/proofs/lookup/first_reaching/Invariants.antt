use Rattle.std.proofs.Common.{ℕ, ◌<◌, get_or}
use Rattle.helix_automata.specs.declared.arc.Arc.{Arc}
use Rattle.helix_automata.proofs.lookup.first_reaching.Given as goal

abbrev pub invariant-loop-i : goal.invariant-loop-i
invariant-loop-i l = (k : ℕ) (e : Arc) → k < l.i → (get_or l.fn.arcs k e).last < l.fn.code
