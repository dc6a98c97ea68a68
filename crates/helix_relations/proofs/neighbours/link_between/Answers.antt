use Rattle.helix_values.specs.Class.{class_of_kind}
use Rattle.helix_relations.specs.Inner.FindingLaws.{seen_of_class, link_ok}
use Rattle.helix_relations.proofs.neighbours.link_between.Goals as goal

pub of-requires : goal.of-requires
of-requires c = seen_of_class c.args.parent c.args.child c.args.relations.now (class_of_kind c.args.kind)
    c.in_ok-seen.seen c.as_slice.result.now c.as_slice.ensures c.in_ok-seen.ensures c.requires

pub returns : goal.returns
returns c = link_ok c.of.result c.args.relations.now (class_of_kind c.args.kind) c.args.parent c.args.child
    c.in_ok-seen.seen c.as_slice.result.now c.as_slice.ensures c.in_ok-seen.ensures c.requires c.of.ensures.class
    c.of.ensures.met
