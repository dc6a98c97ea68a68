use Rattle.std.proofs.Common.{arith}
use Rattle.helix_regex.proofs.Gaps.{gaps_start, gaps_next}
use Rattle.helix_regex.proofs.sets.push_gaps.Goals as goal

pub loop-range-init : goal.loop-range-init
loop-range-init c = gaps_start c.args.ranges.now c.args.raw.now.items c.requires

pub loop-range-preserved : goal.loop-range-preserved
loop-range-preserved c = gaps_next c.loop-range.next c.saturating_add-next.result 0xFFFF_FFFF c.loop-range.range-index
    (0, 0) c.args.ranges.now c.args.raw.now.items
    c.loop-range.raw.items c.push_gap.new.raw.items c.loop-range-test.true c.saturating_add-next.ensures (omega arith)
    c.loop-range.invariant c.in_ok-push_gap.ensures
