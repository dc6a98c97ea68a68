use Rattle.std.proofs.Common.{length}
use Rattle.helix_search.specs.Levels.{first_candidate}
use Rattle.helix_relations.proofs.Asked.{alone_if, related_if, some_relations}
use Rattle.helix_relations.proofs.Existing.{alone_some, related_some}
use Rattle.helix_relations.proofs.least.has_some.Goals as goal

pub returns-then-is_empty-clause-answer : goal.returns-then-is_empty-clause-answer
returns-then-is_empty-clause-answer g c = alone_some c.args.fields.now.nodes.now c.args.fields.now.relations.now
    c.args.levels.now 0
    c.requires.kept c.args.index c.requires.index c.index-fields-index.result
    c.has_cell.result
    (alone_if c.args.fields.now.nodes.now c.args.fields.now.relations.now c.args.levels.now 0
    c.requires.kept c.args.index c.requires.index c.index-fields-index.result
    c.as_slice.result.now c.is_empty.result c.as_slice.ensures c.is_empty.ensures c.if-is_empty.true)
    (length c.args.levels.now) c.has_cell.ensures.answer

pub search-requires-clause-related : goal.search-requires-clause-related
search-requires-clause-related g c = (related_if c.args.fields.now.nodes.now c.args.fields.now.relations.now
    c.args.levels.now 0
    c.requires.kept c.args.index c.requires.index c.index-fields-index.result
    c.as_slice.result.now c.is_empty.result c.as_slice.ensures c.is_empty.ensures c.if-is_empty.false)

pub returns-clause-answer : goal.returns-clause-answer
returns-clause-answer g c = related_some c.args.fields.now.nodes.now c.args.fields.now.relations.now c.args.levels.now 0
    c.requires.kept c.args.index
    (related_if c.args.fields.now.nodes.now c.args.fields.now.relations.now c.args.levels.now 0
    c.requires.kept c.args.index c.requires.index c.index-fields-index.result
    c.as_slice.result.now c.is_empty.result c.as_slice.ensures c.is_empty.ensures c.if-is_empty.false)
    c.args.row.now c.search.result (first_candidate c.search.new.levels) c.search.ensures.answer

pub returns-clause-few : goal.returns-clause-few
returns-clause-few g c none = absurd (some_relations c.args.fields.now.nodes.now c.args.fields.now.relations.now
    c.args.levels.now 0
    c.requires.kept c.args.index
    (related_if c.args.fields.now.nodes.now c.args.fields.now.relations.now c.args.levels.now 0
    c.requires.kept c.args.index c.requires.index c.index-fields-index.result
    c.as_slice.result.now c.is_empty.result c.as_slice.ensures c.is_empty.ensures c.if-is_empty.false) none)
