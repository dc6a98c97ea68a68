use Rattle.std.proofs.Common.{refl, sym, subst}
use Rattle.helix_relations.specs.Asking.{IsOwnFor}
use Rattle.helix_relations.proofs.Asked.{field_is, alone_if, related_if, some_relations}
use Rattle.helix_relations.proofs.Going.{alone_step}
use Rattle.helix_relations.proofs.step.step_in.Goals as goal

pub slot_mut-requires : goal.slot_mut-requires
slot_mut-requires g c = c.requires.slot _ (field_is c.args.fields.now.nodes.now c.args.fields.now.relations.now
    c.args.levels.now 0
    c.requires.kept c.args.level c.requires.level c.index-fields-level.result)

pub step_cell-requires-clause-own : goal.step_cell-requires-clause-own
step_cell-requires-clause-own g c = subst (IsOwnFor c.args.question _) (sym c.slot_mut.ensures.value)
    (c.requires.own _ (field_is c.args.fields.now.nodes.now c.args.fields.now.relations.now c.args.levels.now 0
    c.requires.kept c.args.level c.requires.level c.index-fields-level.result))

pub returns-then-is_empty-clause-step : goal.returns-then-is_empty-clause-step
returns-then-is_empty-clause-step g c = alone_step c.args.fields.now.nodes.now c.args.fields.now.relations.now
    c.args.levels.now 0
    c.requires.kept c.args.level c.requires.level c.index-fields-level.result
    c.args.row.now c.requires.begun
    (alone_if c.args.fields.now.nodes.now c.args.fields.now.relations.now c.args.levels.now 0
    c.requires.kept c.args.level c.requires.level c.index-fields-level.result
    c.as_slice.result.now c.is_empty.result c.as_slice.ensures c.is_empty.ensures c.if-is_empty.true)
    _ c.step_cell.new.slot c.slot_mut.result.now c.args.question c.step_cell.result
    (c.requires.slot _ (field_is c.args.fields.now.nodes.now c.args.fields.now.relations.now c.args.levels.now 0
    c.requires.kept c.args.level c.requires.level c.index-fields-level.result))
    c.slot_mut.ensures.value refl c.step_cell.ensures.answer

pub step_related-requires-clause-related : goal.step_related-requires-clause-related
step_related-requires-clause-related g c = (related_if c.args.fields.now.nodes.now c.args.fields.now.relations.now
    c.args.levels.now 0
    c.requires.kept c.args.level c.requires.level c.index-fields-level.result
    c.as_slice.result.now c.is_empty.result c.as_slice.ensures c.is_empty.ensures c.if-is_empty.false)

pub returns-clause-few : goal.returns-clause-few
returns-clause-few g c none = absurd (some_relations c.args.fields.now.nodes.now c.args.fields.now.relations.now
    c.args.levels.now 0
    c.requires.kept c.args.level
    (related_if c.args.fields.now.nodes.now c.args.fields.now.relations.now c.args.levels.now 0
    c.requires.kept c.args.level c.requires.level c.index-fields-level.result
    c.as_slice.result.now c.is_empty.result c.as_slice.ensures c.is_empty.ensures c.if-is_empty.false) none)
