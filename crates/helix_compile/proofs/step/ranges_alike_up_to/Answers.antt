use Rattle.std.proofs.Common.{arith}
use Rattle.helix_compile.proofs.AlikeUpTo.{listed_more}
use Rattle.helix_compile.proofs.RangeEnds.{end_min, end_here}
use Rattle.helix_compile.proofs.step.ranges_alike_up_to.Goals as goal

pub loop-range-preserved : goal.loop-range-preserved
loop-range-preserved c = (
  omega (arith, c.min-last.ensures, c.loop-range.invariant.0, c.range_alike_up_to.ensures.reached),
  (λ other low high. listed_more c.args.ranges.now c.loop-range.range-index _ c.args.code other c.loop-range-test.true
      (c.loop-range.invariant.1 other low (omega (arith, high, c.min-last.ensures)))
      (c.range_alike_up_to.ensures.alike other low (omega (arith, high, c.min-last.ensures)))),
  end_min c.args.ranges.now c.loop-range.last c.range_alike_up_to.result c.min-last.result c.min-last.ensures
      c.loop-range.invariant.2
      (end_here c.args.ranges.now c.loop-range.range-index _ c.range_alike_up_to.result c.loop-range-test.true
      c.range_alike_up_to.ensures.end),
)
