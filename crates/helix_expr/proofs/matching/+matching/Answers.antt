use Rattle.std.proofs.Common.{arith}
use Rattle.helix_expr.specs.Matching.{Matches}
use Rattle.helix_expr.proofs.Splits.{seq_decides, alt_decides, repeat_decides, no_cut, asked_decides, unasked_decides, cut_decides, some_characters}
use Rattle.helix_expr.proofs.matching.+matching.Goals as goal

pub matches-returns-in-Seq : goal.matches-returns-in-Seq
matches-returns-in-Seq t c = seq_decides _ _ _ _ _ c.in-Seq.is c.as_slice-in-Seq.ensures c.matches_in_order.ensures

pub matches-returns-in-Alt : goal.matches-returns-in-Alt
matches-returns-in-Alt t c = alt_decides _ _ _ _ _ c.in-Alt.is c.as_slice-in-Alt.ensures c.matches_some.ensures

pub matches-returns-in-Repeat : goal.matches-returns-in-Repeat
matches-returns-in-Repeat t c = repeat_decides _ _ _ _ c.in-Repeat.least c.in-Repeat.most _ c.in-Repeat.is c.get.ensures
    c.matches_repeated.ensures

pub matches_in_order-returns-after-loop-cut : goal.matches_in_order-returns-after-loop-cut
matches_in_order-returns-after-loop-cut t c =
    no_cut c.args.parts.now c.in-Some.part.now c.in-Some.rest.now c.args.word.now c.loop-cut.cut
    c.in-Some.ensures.cases.0 c.loop-cut-test.false c.loop-cut.invariant

pub matches_repeated-returns-then-least-gt0 : goal.matches_repeated-returns-then-least-gt0
matches_repeated-returns-then-least-gt0 t c =
    asked_decides _ _ (Matches c.args.part.now) c.args.least c.args.most _ _ c.is_zero.ensures c.if-is_zero.false
    c.one_fewer-fewer.ensures c.if-least-gt0.true c.splits_off.ensures

pub matches_repeated-returns-else-is_empty : goal.matches_repeated-returns-else-is_empty
matches_repeated-returns-else-is_empty t c =
    unasked_decides _ _ (Matches c.args.part.now) c.args.least c.args.most _ _ c.is_zero.ensures c.if-is_zero.false
    c.one_fewer-fewer.ensures (omega (arith, c.if-least-gt0.false))
    (some_characters _ _ c.is_empty-else-least-gt0.ensures c.if-is_empty.false) c.splits_off-else-is_empty.ensures

pub splits_at-returns-then-matches : goal.splits_at-returns-then-matches
splits_at-returns-then-matches t c =
    cut_decides c.matches_repeated.result (Matches c.args.part.now) c.args.least c.args.most c.args.cut c.args.word.now
    (c.matches.ensures.0 c.if-matches.true) c.matches_repeated.ensures
