use Rattle.std.proofs.Common.{refl}
use Rattle.helix_traversal.specs.declared.inside.Inside.TheVariants as inside
use Rattle.helix_traversal.proofs.Visiting.{alone, by_inside, from_items, nothing_inside}
use Rattle.helix_traversal.proofs.walk.+walk.Goals as goal

pub visit_list-returns-in-Some-clause-found : goal.visit_list-returns-in-Some-clause-found
visit_list-returns-in-Some-clause-found g t c = from_items (g.C.Collector.own c.args.collector.now)
    c.args.path.now.items c.args.v.now c.in-Some.items.now (g.C.Collector.found c.args.collector.now)
    (g.C.Collector.found c.visit_items.new.collector) c.visit_items.result c.in-Some.ensures.some
    c.visit_items.ensures.found

pub visit_object-returns-in-Nothing-clause-found : goal.visit_object-returns-in-Nothing-clause-found
visit_object-returns-in-Nothing-clause-found g t c = nothing_inside (g.C.Collector.own c.args.collector.now)
    c.args.path.now.items c.args.members.now c.form_of.result c.inside_of.result inside.Nothing
    (g.C.Collector.found c.args.collector.now) c.form_of.ensures c.inside_of.ensures c.in-Nothing.is refl

pub visit_object-returns-in-Operands-clause-found : goal.visit_object-returns-in-Operands-clause-found
visit_object-returns-in-Operands-clause-found g t c = by_inside (g.C.Collector.own c.args.collector.now)
    c.args.path.now.items c.args.members.now c.form_of.result c.inside_of.result inside.Operands
    (g.C.Collector.found c.args.collector.now) (g.C.Collector.found c.visit_operands.new.collector)
    c.visit_operands.result c.form_of.ensures c.inside_of.ensures c.in-Operands.is c.visit_operands.ensures.found

pub visit_object-returns-in-Branches-clause-found : goal.visit_object-returns-in-Branches-clause-found
visit_object-returns-in-Branches-clause-found g t c = by_inside (g.C.Collector.own c.args.collector.now)
    c.args.path.now.items c.args.members.now c.form_of.result c.inside_of.result inside.Branches
    (g.C.Collector.found c.args.collector.now) (g.C.Collector.found c.visit_branches.new.collector)
    c.visit_branches.result c.form_of.ensures c.inside_of.ensures c.in-Branches.is c.visit_branches.ensures.found

pub visit_whole-returns-in-None-clause-found : goal.visit_whole-returns-in-None-clause-found
visit_whole-returns-in-None-clause-found g t c = alone (g.C.Collector.own c.args.collector.now)
    c.args.path.now.items c.args.v.now c.as_slice.result.now (g.C.Collector.found c.args.collector.now)
    (g.C.Collector.found c.visit.new.self) c.in-None.ensures.none c.as_slice.ensures.value c.in_ok-visit.ensures.found
