use Rattle.std.proofs.Common.{arith}
use Rattle.helix_domains.proofs.ArcCounts.{few_in, few_more}
use Rattle.helix_domains.proofs.patterns.see_arcs.Goals as goal

pub loop-state-preserved : goal.loop-state-preserved
loop-state-preserved c = few_more c.args.dfa.now c.loop-state.state c.arcs-arcs.result.now
    c.states-state-end.ensures.number c.loop-state-test.true c.arcs-arcs.ensures.value c.arcs-arcs.ensures.shape
    c.loop-state.invariant

pub returns : goal.returns
returns c = few_in c.args.dfa.now.moves (λ k d within. c.loop-state.invariant k d
    (omega (arith, within, c.loop-state-test.false, c.states-state-end.ensures.number)))
