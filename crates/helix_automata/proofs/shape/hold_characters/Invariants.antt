use Rattle.std.proofs.Common.{drop}
use Rattle.helix_automata.proofs.Covering.{Left}
use Rattle.helix_automata.proofs.shape.hold_characters.Given as goal

abbrev pub invariant-loop-arc : goal.invariant-loop-arc
invariant-loop-arc l = Left l.arcs (drop l.arc-index l.arcs) l.wanted
