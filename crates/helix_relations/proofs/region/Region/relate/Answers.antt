use Rattle.std.proofs.Common.{◌∙◌, ◌++◌, ◌∷◌, [], length, ap}
use Rattle.helix_relations.specs.Inner.RelatingLaws.{left_in, right_in, linkable, related_content, related_kept}
use Rattle.helix_relations.proofs.region.Region.relate.Goals as goal

pub index_of-left-requires : goal.index_of-left-requires
index_of-left-requires c = left_in c.self.inside.nodes.items c.self.inside.relations c.self.inside.levels.items
    c.self.inside.asked c.self.invariant (record { relation = c.args.relation; sign = c.args.sign }) c.push.new.self
    (c.in_ok-push.ensures.ok ∙ ap (λ rs. rs ++ record { relation = c.args.relation; sign = c.args.sign } ∷ []) c.in_ok-relations.ensures) c.args.self.now c.self.view_is c.requires.ends c.as_slice.result.now c.as_slice.ensures.value

pub index_of-right-requires : goal.index_of-right-requires
index_of-right-requires c = right_in c.self.inside.nodes.items c.self.inside.relations c.self.inside.levels.items
    c.self.inside.asked c.self.invariant (record { relation = c.args.relation; sign = c.args.sign }) c.push.new.self
    (c.in_ok-push.ensures.ok ∙ ap (λ rs. rs ++ record { relation = c.args.relation; sign = c.args.sign } ∷ []) c.in_ok-relations.ensures) c.args.self.now c.self.view_is c.requires.ends c.as_slice-2.result.now c.as_slice-2.ensures.value

pub neighbours_of-requires-clause-classes : goal.neighbours_of-requires-clause-classes
neighbours_of-requires-clause-classes c = linkable c.self.inside.nodes.items c.self.inside.relations c.self.inside.levels.items
    c.self.inside.asked c.self.invariant (record { relation = c.args.relation; sign = c.args.sign }) c.push.new.self
    (c.in_ok-push.ensures.ok ∙ ap (λ rs. rs ++ record { relation = c.args.relation; sign = c.args.sign } ∷ []) c.in_ok-relations.ensures) c.args.self.now c.self.view_is c.requires.ends
    c.as_slice-3.result.now c.as_slice-3.ensures.value c.as_slice-4.result.now c.as_slice-4.ensures

pub neighbours_of-requires-2-clause-classes : goal.neighbours_of-requires-2-clause-classes
neighbours_of-requires-2-clause-classes c = linkable c.self.inside.nodes.items c.self.inside.relations c.self.inside.levels.items
    c.self.inside.asked c.self.invariant (record { relation = c.args.relation; sign = c.args.sign }) c.push.new.self
    (c.in_ok-push.ensures.ok ∙ ap (λ rs. rs ++ record { relation = c.args.relation; sign = c.args.sign } ∷ []) c.in_ok-relations.ensures) c.args.self.now c.self.view_is c.requires.ends
    c.as_slice-5.result.now c.as_slice-5.ensures.value c.as_slice-6.result.now c.as_slice-6.ensures

pub invariant_of-self : goal.invariant_of-self
invariant_of-self c = related_kept c.self.inside.nodes.items c.self.inside.relations c.self.inside.levels.items
    c.self.inside.asked c.self.invariant (record { relation = c.args.relation; sign = c.args.sign }) c.push.new.self
    (c.in_ok-push.ensures.ok ∙ ap (λ rs. rs ++ record { relation = c.args.relation; sign = c.args.sign } ∷ []) c.in_ok-relations.ensures) c.args.self.now c.self.view_is c.requires.ends
    c.as_slice.result.now c.as_slice-2.result.now c.as_slice.ensures.value c.as_slice-2.ensures.value
    c.index_of-left.result c.index_of-right.result c.index_of-left.ensures c.index_of-right.ensures
    c.index_mut.result.now c.index_mut-2.result.now c.in_ok-of_left.of_left c.in_ok-of_right.of_right
    c.index_mut.ensures.value c.index_mut-2.ensures.value
    c.in_ok-room.room.items c.as_slice-4.result.now c.as_slice-6.result.now c.as_slice-3.result.now
    c.as_slice-5.result.now c.as_slice-3.ensures.value c.as_slice-5.ensures.value c.as_slice-4.ensures
    c.as_slice-6.ensures c.in_ok-of_left.ensures c.in_ok-of_right.ensures (c.in_ok-room.ensures ∙ ap length c.as_slice-7.ensures.value)
    c.requires.forest

pub returns-clause-ok : goal.returns-clause-ok
returns-clause-ok c = related_content c.self.inside.nodes.items c.self.inside.relations c.self.inside.levels.items
    c.self.inside.asked c.self.invariant (record { relation = c.args.relation; sign = c.args.sign }) c.push.new.self
    (c.in_ok-push.ensures.ok ∙ ap (λ rs. rs ++ record { relation = c.args.relation; sign = c.args.sign } ∷ []) c.in_ok-relations.ensures) c.args.self.now c.self.view_is c.requires.ends
    c.as_slice.result.now c.as_slice-2.result.now c.as_slice.ensures.value c.as_slice-2.ensures.value
    c.index_of-left.result c.index_of-right.result c.index_of-left.ensures c.index_of-right.ensures
    c.index_mut.result.now c.index_mut-2.result.now c.in_ok-of_left.of_left c.in_ok-of_right.of_right
    c.index_mut.ensures.value c.index_mut-2.ensures.value
