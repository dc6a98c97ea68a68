use Rattle.std.proofs.Common.{length, None, true, ◌∙◌, subst}
use Rattle.helix_search.specs.Extending.{Extends}
use Rattle.helix_search.specs.Levels.{IsFound, first_candidate}
use Rattle.helix_values.specs.View.{cell_of}
use Rattle.helix_relations.specs.Inner.Searched.{region_of}
use Rattle.helix_relations.specs.RegionGraph.{graph_of, fixed_by}
use Rattle.helix_relations.specs.RegionLaws.{fixed_cells}
use Rattle.helix_relations.proofs.Asked.{field_is, candidate_is}
use Rattle.helix_relations.proofs.Going.{own_mark, related_step, related_end}
use Rattle.helix_relations.proofs.step.step_related.Goals as goal

pub slot-requires : goal.slot-requires
slot-requires g c = c.requires.slot _ (field_is c.args.fields.now.nodes.now c.args.fields.now.relations.now
    c.args.levels.now 0
    c.requires.kept c.args.level c.requires.level c.index-fields-level.result)

pub search-requires-clause-fixed : goal.search-requires-clause-fixed
search-requires-clause-fixed g c = fixed_cells (region_of c.args.fields.now) c.requires.kept.region c.args.row.now
    c.args.level c.requires.related.0 c.requires.begun.0 c.requires.begun.1

pub search-requires-clause-mark : goal.search-requires-clause-mark
search-requires-clause-mark g c = own_mark c.args.fields.now.nodes.now c.args.fields.now.relations.now
    c.args.levels.now 0
    c.requires.kept c.args.level c.requires.level c.index-fields-level.result
    c.args.row.now c.requires.begun (cell_of c.view.result) c.args.question c.marked-mark.result
    (c.view.ensures ∙ c.slot.ensures) c.marked-mark.ensures c.requires.own

pub returns-then-not-search-clause-step : goal.returns-then-not-search-clause-step
returns-then-not-search-clause-step g c = related_end c.args.fields.now.nodes.now c.args.fields.now.relations.now
    c.args.levels.now 0
    c.requires.kept c.args.level c.requires.level c.index-fields-level.result
    c.args.row.now c.requires.begun c.requires.related (first_candidate c.search.new.levels) (cell_of c.view.result)
    c.args.question c.marked-mark.result (c.view.ensures ∙ c.slot.ensures) c.marked-mark.ensures
    c.if-not-search.ensures.answer

pub set-requires-clause-field : goal.set-requires-clause-field
set-requires-clause-field g c = c.requires.slot _ (field_is c.args.fields.now.nodes.now
    c.args.fields.now.relations.now c.args.levels.now 0
    c.requires.kept c.args.level c.requires.level c.index-fields-level.result)

pub returns-clause-step : goal.returns-clause-step
returns-clause-step g c = related_step c.args.fields.now.nodes.now c.args.fields.now.relations.now c.args.levels.now 0
    c.requires.kept c.args.level c.requires.level c.index-fields-level.result
    c.args.row.now c.requires.begun c.requires.related c.set.new.self (cell_of c.view-2.result)
    (cell_of c.view.result) c.args.question c.marked-mark.result
    (c.requires.slot _ (field_is c.args.fields.now.nodes.now c.args.fields.now.relations.now c.args.levels.now 0
    c.requires.kept c.args.level c.requires.level c.index-fields-level.result))
    (c.view.ensures ∙ c.slot.ensures) c.set.ensures c.marked-mark.ensures
    (subst
    (λ v. IsFound (Extends (graph_of (region_of c.args.fields.now))
    (fixed_by (region_of c.args.fields.now) c.args.row.now c.args.level) (length c.args.levels.now) None c.args.level)
    c.marked-mark.result true v)
    (candidate_is c.args.fields.now.nodes.now c.args.fields.now.relations.now c.args.levels.now 0
    c.requires.kept c.args.level
    c.requires.related
    c.search.new.levels c.index-levels-0.result c.search.auto.levels c.index-levels-0.is _ c.view-2.ensures)
    c.if-not-search.ensures.answer)
