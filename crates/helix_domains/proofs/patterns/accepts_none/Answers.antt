use Rattle.std.proofs.Common.{arith}
use Rattle.helix_domains.proofs.Dead.{dead_more, none_from}
use Rattle.helix_domains.proofs.patterns.accepts_none.Goals as goal

pub loop-state-preserved : goal.loop-state-preserved
loop-state-preserved c = dead_more c.args.dfa.now c.loop-state.state c.states-state-end.result c.arcs-arcs.result.now
    c.accepting.result c.states-state-end.ensures.number c.loop-state-test.true c.arcs-arcs.ensures.value
    c.arcs-arcs.ensures.shape c.accepting.ensures c.if-accepting.false c.loop-state.invariant

pub returns : goal.returns
returns c = λ word accepts. none_from c.args.dfa.now
    (λ k below. c.loop-state.invariant k
    (omega (arith, below, c.loop-state-test.false, c.states-state-end.ensures.number)))
    word 0 (omega (arith, c.states-state-end.ensures.some, c.states-state-end.ensures.number)) accepts
