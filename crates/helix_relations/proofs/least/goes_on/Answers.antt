use Rattle.std.proofs.Common.{length, None, true, refl, ◌∙◌, subst}
use Rattle.helix_rows.specs.declared.region.Question.TheVariants as question
use Rattle.helix_search.specs.Extending.{Extends}
use Rattle.helix_search.specs.Levels.{IsFound, first_candidate}
use Rattle.helix_values.specs.View.{cell_of}
use Rattle.helix_values.specs.declared.mark.Mark.TheVariants as mark
use Rattle.helix_relations.specs.Inner.Searched.{region_of}
use Rattle.helix_relations.specs.RegionGraph.{graph_of, fixed_by}
use Rattle.helix_relations.specs.RegionLaws.{fixed_cells}
use Rattle.helix_relations.proofs.Asked.{alone_if, related_if, some_relations, field_is, candidate_is}
use Rattle.helix_relations.proofs.Going.{own_mark, goes_alone, goes_never, goes_related, found_comparable}
use Rattle.helix_relations.proofs.least.goes_on.Goals as goal

pub slot-requires : goal.slot-requires
slot-requires g c = (c.requires.askable _ (field_is c.args.fields.now.nodes.now c.args.fields.now.relations.now
    c.args.levels.now 0
    c.requires.kept c.args.level c.requires.level c.index-fields-level.result)).slot

pub returns-then-is_empty-clause-answer : goal.returns-then-is_empty-clause-answer
returns-then-is_empty-clause-answer g c = goes_alone c.args.fields.now.nodes.now c.args.fields.now.relations.now
    c.args.levels.now 0
    c.requires.kept c.args.level c.requires.level c.index-fields-level.result
    c.args.row.now c.requires.begun (cell_of c.view-own.result) (c.view-own.ensures ∙ c.slot.ensures) c.is_cell.result
    (alone_if c.args.fields.now.nodes.now c.args.fields.now.relations.now c.args.levels.now 0
    c.requires.kept c.args.level c.requires.level c.index-fields-level.result
    c.as_slice.result.now c.is_empty.result c.as_slice.ensures c.is_empty.ensures c.if-is_empty.true) c.is_cell.ensures

pub search-requires-clause-fixed : goal.search-requires-clause-fixed
search-requires-clause-fixed g c = fixed_cells (region_of c.args.fields.now) c.requires.kept.region c.args.row.now
    c.args.level (related_if c.args.fields.now.nodes.now c.args.fields.now.relations.now c.args.levels.now 0
    c.requires.kept c.args.level c.requires.level c.index-fields-level.result
    c.as_slice.result.now c.is_empty.result c.as_slice.ensures c.is_empty.ensures c.if-is_empty.false).0
    c.requires.begun.0 c.requires.begun.1

pub search-requires-clause-related : goal.search-requires-clause-related
search-requires-clause-related g c = (related_if c.args.fields.now.nodes.now c.args.fields.now.relations.now
    c.args.levels.now 0
    c.requires.kept c.args.level c.requires.level c.index-fields-level.result
    c.as_slice.result.now c.is_empty.result c.as_slice.ensures c.is_empty.ensures c.if-is_empty.false)

pub search-requires-clause-mark : goal.search-requires-clause-mark
search-requires-clause-mark g c = own_mark c.args.fields.now.nodes.now c.args.fields.now.relations.now
    c.args.levels.now 0
    c.requires.kept c.args.level c.requires.level c.index-fields-level.result
    c.args.row.now c.requires.begun (cell_of c.view-own.result) question.At (mark.At c.view-own.result)
    (c.view-own.ensures ∙ c.slot.ensures) refl (λ field at. (c.requires.askable field at).cell)

pub returns-then-not-search-clause-answer : goal.returns-then-not-search-clause-answer
returns-then-not-search-clause-answer g c = goes_never c.args.fields.now.nodes.now c.args.fields.now.relations.now
    c.args.levels.now 0
    c.requires.kept c.args.level c.requires.level c.index-fields-level.result
    c.args.row.now c.requires.begun c.view-own.result (c.view-own.ensures ∙ c.slot.ensures)
    (related_if c.args.fields.now.nodes.now c.args.fields.now.relations.now c.args.levels.now 0
    c.requires.kept c.args.level c.requires.level c.index-fields-level.result
    c.as_slice.result.now c.is_empty.result c.as_slice.ensures c.is_empty.ensures c.if-is_empty.false)
    (first_candidate c.search.new.levels) c.if-not-search.ensures.answer

pub returns-then-not-search-clause-few : goal.returns-then-not-search-clause-few
returns-then-not-search-clause-few g c none = absurd (some_relations c.args.fields.now.nodes.now
    c.args.fields.now.relations.now c.args.levels.now 0
    c.requires.kept c.args.level
    (related_if c.args.fields.now.nodes.now c.args.fields.now.relations.now c.args.levels.now 0
    c.requires.kept c.args.level c.requires.level c.index-fields-level.result
    c.as_slice.result.now c.is_empty.result c.as_slice.ensures c.is_empty.ensures c.if-is_empty.false) none)

pub cmp_cell-requires : goal.cmp_cell-requires
cmp_cell-requires g c = found_comparable c.args.fields.now.nodes.now c.args.fields.now.relations.now c.args.levels.now 0
    c.requires.kept c.args.level c.requires.level c.index-fields-level.result
    c.args.row.now c.requires.begun (mark.At c.view-own.result) (cell_of c.view.result)
    (cell_of c.view-own.result) (c.view-own.ensures ∙ c.slot.ensures)
    (c.requires.askable _ (field_is c.args.fields.now.nodes.now c.args.fields.now.relations.now c.args.levels.now 0
    c.requires.kept c.args.level c.requires.level c.index-fields-level.result)).cell
    (subst
    (λ v. IsFound (Extends (graph_of (region_of c.args.fields.now))
    (fixed_by (region_of c.args.fields.now) c.args.row.now c.args.level) (length c.args.levels.now) None c.args.level)
    (mark.At c.view-own.result) true v)
    (candidate_is c.args.fields.now.nodes.now c.args.fields.now.relations.now c.args.levels.now 0
    c.requires.kept c.args.level
    (related_if c.args.fields.now.nodes.now c.args.fields.now.relations.now c.args.levels.now 0
    c.requires.kept c.args.level c.requires.level c.index-fields-level.result
    c.as_slice.result.now c.is_empty.result c.as_slice.ensures c.is_empty.ensures c.if-is_empty.false)
    c.search.new.levels c.index-levels-0.result c.search.auto.levels c.index-levels-0.is _ c.view.ensures)
    c.if-not-search.ensures.answer)

pub returns-clause-answer : goal.returns-clause-answer
returns-clause-answer g c = goes_related c.args.fields.now.nodes.now c.args.fields.now.relations.now c.args.levels.now 0
    c.requires.kept c.args.level c.requires.level c.index-fields-level.result
    c.args.row.now c.requires.begun c.view-own.result (c.view-own.ensures ∙ c.slot.ensures)
    (related_if c.args.fields.now.nodes.now c.args.fields.now.relations.now c.args.levels.now 0
    c.requires.kept c.args.level c.requires.level c.index-fields-level.result
    c.as_slice.result.now c.is_empty.result c.as_slice.ensures c.is_empty.ensures c.if-is_empty.false)
    (cell_of c.view.result) c.cmp_cell.result c.is_eq.result c.cmp_cell.ensures c.is_eq.ensures
    (subst
    (λ v. IsFound (Extends (graph_of (region_of c.args.fields.now))
    (fixed_by (region_of c.args.fields.now) c.args.row.now c.args.level) (length c.args.levels.now) None c.args.level)
    (mark.At c.view-own.result) true v)
    (candidate_is c.args.fields.now.nodes.now c.args.fields.now.relations.now c.args.levels.now 0
    c.requires.kept c.args.level
    (related_if c.args.fields.now.nodes.now c.args.fields.now.relations.now c.args.levels.now 0
    c.requires.kept c.args.level c.requires.level c.index-fields-level.result
    c.as_slice.result.now c.is_empty.result c.as_slice.ensures c.is_empty.ensures c.if-is_empty.false)
    c.search.new.levels c.index-levels-0.result c.search.auto.levels c.index-levels-0.is _ c.view.ensures)
    c.if-not-search.ensures.answer)

pub returns-clause-few : goal.returns-clause-few
returns-clause-few g c none = absurd (some_relations c.args.fields.now.nodes.now c.args.fields.now.relations.now
    c.args.levels.now 0
    c.requires.kept c.args.level
    (related_if c.args.fields.now.nodes.now c.args.fields.now.relations.now c.args.levels.now 0
    c.requires.kept c.args.level c.requires.level c.index-fields-level.result
    c.as_slice.result.now c.is_empty.result c.as_slice.ensures c.is_empty.ensures c.if-is_empty.false) none)
