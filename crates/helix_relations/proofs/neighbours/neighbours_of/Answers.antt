use Rattle.std.proofs.Common.{sym, ◌∙◌, refl, subst}
use Rattle.helix_relations.specs.Inner.Kept.{joint_of, joints_of}
use Rattle.helix_relations.specs.Inner.FindingLaws.{AreFound, linkable_at, linkable_back, found_same, found_more, linked_at, joint_is}
use Rattle.helix_relations.proofs.neighbours.neighbours_of.Goals as goal
use Rattle.helix_relations.proofs.neighbours.neighbours_of.Goals.{then-are_joined+in_ok-down+in_ok-up+in_ok-push, else-are_joined}

pub link_between-requires : goal.link_between-requires
link_between-requires c = linkable_at c.args.nodes.now c.args.relations.now c.args.here c.loop-node.node
    c.index-nodes-here.result c.index-nodes-node.result c.requires.classes c.requires.here c.index-nodes-here.is
    c.loop-node-test.true c.index-nodes-node.is

pub link_between-requires-then-are_joined : goal.link_between-requires-then-are_joined
link_between-requires-then-are_joined c = linkable_back _ _ _ c.args.relations.now
    (linkable_at c.args.nodes.now c.args.relations.now c.args.here c.loop-node.node
    c.index-nodes-here.result c.index-nodes-node.result c.requires.classes c.requires.here c.index-nodes-here.is
    c.loop-node-test.true c.index-nodes-node.is)

pub loop-node-preserved : goal.loop-node-preserved
loop-node-preserved c = elim c.if-are_joined.branch [
  | then-are_joined+in_ok-down+in_ok-up+in_ok-push w ↦ found_more (joints_of c.args.nodes.now) c.args.relations.now
      (joint_of c.index-nodes-here.result) c.loop-node.node c.loop-node.neighbours c.if-are_joined.neighbours
      (joint_of c.index-nodes-node.result) _
      (joint_is c.args.nodes.now c.loop-node.node c.index-nodes-node.result c.loop-node-test.true c.index-nodes-node.is)
      refl (sym w.if-are_joined.true ∙ c.are_joined.ensures) w.in_ok-down.ensures w.in_ok-up.ensures
      (w.neighbours-is ∙ w.in_ok-push.ensures.ok) c.loop-node.invariant
  | else-are_joined w ↦ subst (AreFound (joints_of c.args.nodes.now) c.args.relations.now
      (joint_of c.index-nodes-here.result) _) (sym w.neighbours-is)
      (found_same (joints_of c.args.nodes.now) c.args.relations.now
      (joint_of c.index-nodes-here.result) c.loop-node.node c.loop-node.neighbours
      (joint_of c.index-nodes-node.result)
      (joint_is c.args.nodes.now c.loop-node.node c.index-nodes-node.result c.loop-node-test.true c.index-nodes-node.is)
      (sym w.if-are_joined.false ∙ c.are_joined.ensures) c.loop-node.invariant)
]

pub returns : goal.returns
returns c = linked_at c.args.nodes.now c.args.relations.now c.args.here c.loop-node.node c.index-nodes-here.result
    c.loop-node.neighbours c.requires.here c.index-nodes-here.is c.loop-node-test.false c.loop-node.invariant
