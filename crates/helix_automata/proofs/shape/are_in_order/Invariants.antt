use Rattle.std.proofs.Common.{◌↔◌, length}
use Rattle.helix_automata.specs.Shape.{AreInOrder}
use Rattle.helix_automata.proofs.shape.are_in_order.Given as goal

abbrev pub invariant-loop-rest : goal.invariant-loop-rest
invariant-loop-rest l = AreInOrder l.rest ↔ AreInOrder l.fn.arcs

abbrev pub decreases-loop-rest : goal.decreases-loop-rest
decreases-loop-rest l = length l.rest
