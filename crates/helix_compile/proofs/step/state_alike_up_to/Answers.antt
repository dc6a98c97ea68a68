use Rattle.helix_compile.proofs.RangeEnds.{reads_at, end_more}
use Rattle.helix_compile.proofs.step.state_alike_up_to.Goals as goal

pub returns-in-Some-clause-end : goal.returns-in-Some-clause-end
returns-in-Some-clause-end c all reads = end_more c.in-Some.ranges.now all c.ranges_alike_up_to.result
    (reads_at c.args.nfa.now all c.in-Some.ranges.now c.args.number c.in-Some.field-0-1 c.in-Some.ensures.some reads)
    c.ranges_alike_up_to.ensures.end
