use Rattle.std.proofs.Common.{below_more}
use Rattle.helix_expr.specs.Matching.{ContainsMatch}
use Rattle.helix_expr.proofs.Parts.{free, found_part, no_part, is_so, is_not_so, part_from, no_part_from}
use Rattle.helix_expr.proofs.containing.contains_somewhere.Goals as goal

pub returns-then-begins_match : goal.returns-then-begins_match
returns-then-begins_match c =
    is_so (ContainsMatch (free c.args.expr.now c.args.at_end) c.args.word.now)
    (found_part c.args.expr.now c.args.at_end c.args.word.now c.loop-cut.cut
    (part_from c.begins_match.result c.args.expr.now c.args.at_end c.loop-cut.cut c.args.word.now c.begins_match.ensures
    c.if-begins_match.true))

pub loop-cut-preserved : goal.loop-cut-preserved
loop-cut-preserved c =
    below_more _ _ c.loop-cut.invariant
    (no_part_from c.begins_match.result c.args.expr.now c.args.at_end c.loop-cut.cut c.args.word.now
    c.begins_match.ensures c.if-begins_match.false)

pub returns : goal.returns
returns c =
    is_not_so (ContainsMatch (free c.args.expr.now c.args.at_end) c.args.word.now)
    (no_part c.args.expr.now c.args.at_end c.args.word.now c.loop-cut.cut c.loop-cut-test.false c.loop-cut.invariant)
