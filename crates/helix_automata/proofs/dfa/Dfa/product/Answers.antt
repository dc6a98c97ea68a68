use Rattle.std.proofs.Common.{subst}
use Rattle.helix_automata.specs.Shape.{IsWellFormed}
use Rattle.helix_automata.proofs.ProductArcs.{product_arcs}
use Rattle.helix_automata.proofs.dfa.Dfa.product.Goals as goal

pub returns-clause-arcs : goal.returns-clause-arcs
returns-clause-arcs c = product_arcs c.args.self.now c.args.other.now
    (subst IsWellFormed c.self.view_is c.self.invariant) (subst IsWellFormed c.other.view_is c.other.invariant)
    c.explore.result c.explore.ensures.arcs
