use Rattle.std.proofs.Common.{arith}
use Rattle.helix_compile.proofs.Stepping.{leads_more, leads_all}
use Rattle.helix_compile.proofs.step.step.Goals as goal

pub loop-number-preserved : goal.loop-number-preserved
loop-number-preserved c =
    leads_more c.args.nfa.now c.args.set.now c.loop-number.seen c.note_next.new.seen c.loop-number.number-index
    _ c.args.code c.loop-number-test.true c.loop-number.invariant
    c.in_ok-note_next.ensures

pub returns-clause-leads : goal.returns-clause-leads
returns-clause-leads c =
    leads_all c.args.nfa.now c.args.set.now c.loop-number.seen c.epsilon_closure.new.found.items
    c.loop-number.number-index c.args.code c.epsilon_closure.result
    (omega (arith, c.loop-number-test.false)) c.loop-number.invariant c.epsilon_closure.ensures.same
