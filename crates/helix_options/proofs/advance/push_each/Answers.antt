use Rattle.std.proofs.Common.{◌∙◌}
use Rattle.helix_options.proofs.Demanding.{part_demanded}
use Rattle.helix_options.proofs.advance.push_each.Goals as goal

pub loop-tree-preserved : goal.loop-tree-preserved
loop-tree-preserved c = part_demanded c.loop-tree.demands c.push.new.self c.loop-tree.parts c.pop.new.self
    c.in-Some.tree c.args.sign c.in-Some.ensures c.in_ok-push.ensures.ok ∙ c.loop-tree.invariant
