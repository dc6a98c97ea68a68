use Rattle.std.proofs.Common.{arith}
use Rattle.helix_forest.proofs.TreeSteps.{replaces_none, replaces_next, replaces_all}
use Rattle.helix_forest.proofs.labels.replace_label.Goals as goal

pub loop-label-init : goal.loop-label-init
loop-label-init c = replaces_none c.args.old c.args.new c.args.labels.now

pub loop-label-preserved : goal.loop-label-preserved
loop-label-preserved c = replaces_next c.args.old c.args.new c.args.labels.now c.loop-label.labels
    c.loop-label.label-index _ (omega arith) c.loop-label.invariant c.replaced.ensures

pub returns : goal.returns
returns c = replaces_all c.args.old c.args.new c.args.labels.now c.loop-label.labels c.loop-label.label-index
    (omega arith) c.loop-label.invariant
