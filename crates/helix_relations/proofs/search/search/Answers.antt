use Rattle.std.proofs.Common.{length, arith}
use Rattle.std.proofs.lemmas.List.{length-map}
use Rattle.helix_relations.specs.Inner.Parts.{field_of}
use Rattle.helix_relations.specs.Inner.FixedLaws.{nodes_extend}
use Rattle.helix_relations.specs.Inner.SearchingLaws.{are_nodes}
use Rattle.helix_relations.proofs.Fixing.{mark_at, found_alike, fixed_values}
use Rattle.helix_relations.proofs.search.search.Goals as goal

pub least-requires-clause-nodes : goal.least-requires-clause-nodes
least-requires-clause-nodes g c = are_nodes c.args.fields.now.nodes.now c.args.fields.now.relations.now
    c.args.levels.now 0 c.requires.kept

pub least-requires-clause-fixed : goal.least-requires-clause-fixed
least-requires-clause-fixed g c = fixed_values c.args.fields.now.nodes.now c.args.fields.now.relations.now
    c.args.levels.now 0 c.requires.kept c.args.row.now c.args.fixed c.requires.within c.requires.fixed

pub least-requires-clause-mark : goal.least-requires-clause-mark
least-requires-clause-mark g c = mark_at c.args.fields.now.nodes.now c.args.index
    (let below = c.requires.related.0 in let same = length-map c.args.fields.now.nodes.now field_of in
    omega (arith, below, same))
    c.args.mark c.requires.mark

pub returns-clause-answer : goal.returns-clause-answer
returns-clause-answer g c = found_alike _ _
    (nodes_extend c.args.fields.now.nodes.now c.args.fields.now.relations.now c.args.levels.now 0 c.requires.kept
    c.args.row.now c.args.fixed c.requires.within c.requires.fixed (length c.args.levels.now) c.args.index
    c.requires.related)
    c.args.mark c.least.result _ c.least.ensures.answer
