use Rattle.std.proofs.Common.{false, true, refl, sym, ◌∙◌, subst}
use Rattle.helix_search.specs.Levels.{first_candidate}
use Rattle.helix_words.specs.Questions.{IsLeastAdmitted}
use Rattle.helix_relations.specs.Inner.Searched.{region_of}
use Rattle.helix_relations.specs.Region.{ExtendsTo}
use Rattle.helix_relations.specs.RegionLaws.{fixed_cells}
use Rattle.helix_relations.proofs.Asked.{alone_if, related_if, some_relations, candidate_is}
use Rattle.helix_relations.proofs.Beginning.{answer_alike}
use Rattle.helix_relations.proofs.Going.{alone_rows, related_found}
use Rattle.helix_relations.proofs.least.least_after.Goals as goal

pub returns-then-is_empty-clause-answer : goal.returns-then-is_empty-clause-answer
returns-then-is_empty-clause-answer g c = answer_alike _
    (ExtendsTo (region_of c.args.fields.now) c.args.prefix.now c.args.level)
    (alone_rows c.args.fields.now.nodes.now c.args.fields.now.relations.now c.args.levels.now 0
    c.requires.kept c.args.level c.requires.level c.index-fields-level.result
    c.args.prefix.now c.requires.begun
    (alone_if c.args.fields.now.nodes.now c.args.fields.now.relations.now c.args.levels.now 0
    c.requires.kept c.args.level c.requires.level c.index-fields-level.result
    c.as_slice.result.now c.is_empty.result c.as_slice.ensures c.is_empty.ensures c.if-is_empty.true))
    c.args.mark c.least_cell.result c.args.out.now c.least_cell.new.out c.least_cell.ensures.answer

pub search-requires-clause-fixed : goal.search-requires-clause-fixed
search-requires-clause-fixed g c = fixed_cells (region_of c.args.fields.now) c.requires.kept.region c.args.prefix.now
    c.args.level (related_if c.args.fields.now.nodes.now c.args.fields.now.relations.now c.args.levels.now 0
    c.requires.kept c.args.level c.requires.level c.index-fields-level.result
    c.as_slice.result.now c.is_empty.result c.as_slice.ensures c.is_empty.ensures c.if-is_empty.false).0
    c.requires.begun.0 c.requires.begun.1

pub search-requires-clause-related : goal.search-requires-clause-related
search-requires-clause-related g c = (related_if c.args.fields.now.nodes.now c.args.fields.now.relations.now
    c.args.levels.now 0
    c.requires.kept c.args.level c.requires.level c.index-fields-level.result
    c.as_slice.result.now c.is_empty.result c.as_slice.ensures c.is_empty.ensures c.if-is_empty.false)

pub returns-then-not-search-clause-answer : goal.returns-then-not-search-clause-answer
returns-then-not-search-clause-answer g c = (
  refl,
  related_found c.args.fields.now.nodes.now c.args.fields.now.relations.now c.args.levels.now 0
      c.requires.kept c.args.level c.requires.level c.index-fields-level.result
      c.args.prefix.now c.requires.begun
      (related_if c.args.fields.now.nodes.now c.args.fields.now.relations.now c.args.levels.now 0
      c.requires.kept c.args.level c.requires.level c.index-fields-level.result
      c.as_slice.result.now c.is_empty.result c.as_slice.ensures c.is_empty.ensures c.if-is_empty.false)
      c.args.mark false (first_candidate c.search.new.levels) c.if-not-search.ensures.answer,
)

pub returns-then-not-search-clause-few : goal.returns-then-not-search-clause-few
returns-then-not-search-clause-few g c none = absurd (some_relations c.args.fields.now.nodes.now
    c.args.fields.now.relations.now c.args.levels.now 0
    c.requires.kept c.args.level
    (related_if c.args.fields.now.nodes.now c.args.fields.now.relations.now c.args.levels.now 0
    c.requires.kept c.args.level c.requires.level c.index-fields-level.result
    c.as_slice.result.now c.is_empty.result c.as_slice.ensures c.is_empty.ensures c.if-is_empty.false) none)

pub returns-clause-answer : goal.returns-clause-answer
returns-clause-answer g c = subst
    (λ v. IsLeastAdmitted (ExtendsTo (region_of c.args.fields.now) c.args.prefix.now c.args.level) c.args.mark v)
    (candidate_is c.args.fields.now.nodes.now c.args.fields.now.relations.now c.args.levels.now 0
    c.requires.kept c.args.level
    (related_if c.args.fields.now.nodes.now c.args.fields.now.relations.now c.args.levels.now 0
    c.requires.kept c.args.level c.requires.level c.index-fields-level.result
    c.as_slice.result.now c.is_empty.result c.as_slice.ensures c.is_empty.ensures c.if-is_empty.false)
    c.search.new.levels c.index-levels-0.result c.search.auto.levels c.index-levels-0.is _ c.view.ensures
    ∙ sym c.set.ensures)
    (related_found c.args.fields.now.nodes.now c.args.fields.now.relations.now c.args.levels.now 0
    c.requires.kept c.args.level c.requires.level c.index-fields-level.result
    c.args.prefix.now c.requires.begun
    (related_if c.args.fields.now.nodes.now c.args.fields.now.relations.now c.args.levels.now 0
    c.requires.kept c.args.level c.requires.level c.index-fields-level.result
    c.as_slice.result.now c.is_empty.result c.as_slice.ensures c.is_empty.ensures c.if-is_empty.false)
    c.args.mark true (first_candidate c.search.new.levels) c.if-not-search.ensures.answer)

pub returns-clause-few : goal.returns-clause-few
returns-clause-few g c none = absurd (some_relations c.args.fields.now.nodes.now c.args.fields.now.relations.now
    c.args.levels.now 0
    c.requires.kept c.args.level
    (related_if c.args.fields.now.nodes.now c.args.fields.now.relations.now c.args.levels.now 0
    c.requires.kept c.args.level c.requires.level c.index-fields-level.result
    c.as_slice.result.now c.is_empty.result c.as_slice.ensures c.is_empty.ensures c.if-is_empty.false) none)
