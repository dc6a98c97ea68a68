use Rattle.std.proofs.Common.{arith}
use Rattle.helix_options.proofs.Judging.{one_more_demand}
use Rattle.helix_options.proofs.open.demands_of.Goals as goal

pub loop-number-preserved : goal.loop-number-preserved
loop-number-preserved c = one_more_demand c.args.constraints.now c.args.numbers.now c.loop-number.number-index
    c.loop-number.demands c.push.new.self c.index-constraints-number.result c.in_ok-tree_of.field-0 (omega arith)
    c.loop-number.invariant c.index-constraints-number.is (c.requires c.loop-number.number-index 0 (omega arith))
    c.in_ok-tree_of.ensures.tree c.in_ok-push.ensures.ok
