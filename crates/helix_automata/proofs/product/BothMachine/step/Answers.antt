use Rattle.std.proofs.Common.{length}
use Rattle.helix_automata.proofs.Pairs.{pair_leads}
use Rattle.helix_automata.proofs.ProductArcs.{pair_ends}
use Rattle.helix_automata.proofs.product.BothMachine.step.Goals as goal

pub returns-clause-leads : goal.returns-clause-leads
returns-clause-leads c = pair_leads c.args.self.now.left.now c.args.self.now.right.now c.args.pair.now c.arcs.result.now
    c.arcs-2.result.now c.args.first c.arc_of-left.result.last c.arc_of-right.result.last
    c.min.result c.arc_of-left.result.to c.arc_of-right.result.to c.arcs.ensures.value c.arcs-2.ensures.value
    c.arc_of-left.ensures.reaches c.arc_of-right.ensures.reaches c.min.ensures
    (c.arc_of-left.ensures.named (length c.args.self.now.left.now.moves) c.arcs.ensures.shape)
    (c.arc_of-right.ensures.named (length c.args.self.now.right.now.moves) c.arcs-2.ensures.shape)
    c.arc_of-left.ensures.leads c.arc_of-right.ensures.leads

pub returns-clause-ends : goal.returns-clause-ends
returns-clause-ends c = pair_ends c.args.self.now.left.now c.args.self.now.right.now c.args.pair.now c.arcs.result.now
    c.arcs-2.result.now c.arc_of-left.result c.arc_of-right.result c.min.result c.arcs.ensures.value
    c.arcs-2.ensures.value c.arc_of-left.ensures.found c.arc_of-right.ensures.found c.min.ensures
