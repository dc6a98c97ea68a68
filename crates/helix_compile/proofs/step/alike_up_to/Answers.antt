use Rattle.std.proofs.Common.{arith}
use Rattle.helix_compile.proofs.AlikeUpTo.{alike_more, alike_all}
use Rattle.helix_compile.proofs.RangeEnds.{nfa_end_min}
use Rattle.helix_compile.proofs.step.alike_up_to.Goals as goal

pub loop-number-preserved : goal.loop-number-preserved
loop-number-preserved c = (
  omega (arith, c.min-last.ensures, c.loop-number.invariant.0, c.state_alike_up_to.ensures.reached),
  (λ other low high. alike_more c.args.nfa.now c.args.set.now c.loop-number.number-index _ c.args.code other
      c.loop-number-test.true
      (c.loop-number.invariant.1 other low (omega (arith, high, c.min-last.ensures)))
      (c.state_alike_up_to.ensures.alike other low (omega (arith, high, c.min-last.ensures)))),
  nfa_end_min c.args.nfa.now c.loop-number.last c.state_alike_up_to.result c.min-last.result c.min-last.ensures
      c.loop-number.invariant.2 c.state_alike_up_to.ensures.end,
)

pub returns-clause-alike : goal.returns-clause-alike
returns-clause-alike c =
    λ other low high. alike_all c.args.nfa.now c.args.set.now c.loop-number.number-index c.args.code other
    (omega (arith, c.loop-number-test.false))
    (c.loop-number.invariant.1 other low high)
