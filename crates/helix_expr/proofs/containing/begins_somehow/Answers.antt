use Rattle.std.proofs.Common.{false}
use Rattle.helix_expr.specs.Inner.Splitting.{BeginsMatch}
use Rattle.helix_expr.proofs.Parts.{found_prefix, no_prefix, is_so, is_not_so}
use Rattle.helix_expr.proofs.containing.begins_somehow.Goals as goal

pub returns-then-matches : goal.returns-then-matches
returns-then-matches c =
    is_so (BeginsMatch c.args.expr.now false c.args.word.now)
    (found_prefix c.args.expr.now c.args.word.now c.loop-cut.cut (c.matches.ensures.0 c.if-matches.true))

pub returns : goal.returns
returns c =
    is_not_so (BeginsMatch c.args.expr.now false c.args.word.now)
    (no_prefix c.args.expr.now c.args.word.now c.loop-cut.cut c.loop-cut-test.false c.loop-cut.invariant)
