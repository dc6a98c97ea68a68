use Rattle.std.proofs.Common.{◌≡◌, ◌++◌, drop, take}
use Rattle.helix_traversal.specs.Traversal.{collected}
use Rattle.helix_traversal.specs.Inner.Parts.{branches, items_from, operands}
use Rattle.helix_traversal.proofs.walk.+walk.Given as goal

abbrev pub invariant-visit_operands-loop-member : goal.invariant-visit_operands-loop-member
invariant-visit_operands-loop-member g l = (g.C.Collector.found l.collector
    ≡ g.C.Collector.found l.initial.collector ++ collected (g.C.Collector.own l.initial.collector)
    (operands l.initial.path.items (take l.member-index l.members)))
    × (g.C.Collector.own l.collector ≡ g.C.Collector.own l.initial.collector)
    × (l.path.items ≡ l.initial.path.items)

abbrev pub invariant-visit_branches-loop-member : goal.invariant-visit_branches-loop-member
invariant-visit_branches-loop-member g l = (g.C.Collector.found l.collector
    ≡ g.C.Collector.found l.initial.collector ++ collected (g.C.Collector.own l.initial.collector)
    (branches l.initial.path.items (take l.member-index l.members)))
    × (g.C.Collector.own l.collector ≡ g.C.Collector.own l.initial.collector)
    × (l.path.items ≡ l.initial.path.items)

abbrev pub invariant-visit_items-loop-index : goal.invariant-visit_items-loop-index
invariant-visit_items-loop-index g l = (g.C.Collector.found l.collector
    ++ collected (g.C.Collector.own l.initial.collector) (items_from l.initial.path.items l.index (drop l.index l.items))
    ≡ g.C.Collector.found l.initial.collector
    ++ collected (g.C.Collector.own l.initial.collector) (items_from l.initial.path.items 0 l.items))
    × (g.C.Collector.own l.collector ≡ g.C.Collector.own l.initial.collector)
    × (l.path.items ≡ l.initial.path.items)
