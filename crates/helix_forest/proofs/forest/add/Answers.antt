use Rattle.helix_forest.proofs.Told.{told_by_lines, told_by_adding}
use Rattle.helix_forest.proofs.forest.add.Goals as goal

pub returns-then-left-right-clause-told : goal.returns-then-left-right-clause-told
returns-then-left-right-clause-told c = told_by_lines c.args.trees.now c.args.relation c.requires
    c.index-left.result.now c.index-right.result.now c.index-left.ensures c.index-right.ensures c.if-left-right.true
    c.as_slice.result.now c.as_slice.ensures c.is_line.result c.is_line.ensures

pub returns-clause-told : goal.returns-clause-told
returns-clause-told c = told_by_adding c.args.trees.now c.args.relation c.requires
    c.index-left.result.now c.index-right.result.now c.index-left.ensures c.index-right.ensures c.if-left-right.false
    c.as_mut_slice.result.now c.replace_label.new.labels c.push.new.self c.as_mut_slice.ensures.value
    c.replace_label.ensures c.args.trees.now.labels.len c.as_mut_slice.ensures.len c.in_ok-push.ensures.ok
