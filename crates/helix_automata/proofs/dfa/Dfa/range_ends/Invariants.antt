use Rattle.std.proofs.Common.{take}
use Rattle.helix_automata.proofs.Greatest.{IsMost}
use Rattle.helix_automata.proofs.dfa.Dfa.range_ends.Given as goal

abbrev pub invariant-loop-arcs : goal.invariant-loop-arcs
invariant-loop-arcs l = IsMost (take l.arcs-index l.arcs-items) l.most
