use Rattle.std.proofs.Common.{drop, arith}
use Rattle.std.proofs.Math.ListN.{drop_of_length-le}
use Rattle.helix_compile.proofs.EmptyWords.{silent_all, quiet_in_order, quiet_some, seq_quiet, alt_quiet, repeat_quiet}
use Rattle.helix_compile.proofs.empty_words.+empty_words.Goals as goal

pub match_only_empty-returns-clause-in_order : goal.match_only_empty-returns-clause-in_order
match_only_empty-returns-clause-in_order t c =
    λ _. quiet_in_order c.args.parts.now (silent_all c.args.parts.now (drop c.loop-part.part-index c.args.parts.now)
    (drop_of_length-le c.args.parts.now (omega (arith, c.loop-part-test.false))) c.loop-part.invariant)

pub match_only_empty-returns-clause-some : goal.match_only_empty-returns-clause-some
match_only_empty-returns-clause-some t c =
    λ _. quiet_some c.args.parts.now (silent_all c.args.parts.now (drop c.loop-part.part-index c.args.parts.now)
    (drop_of_length-le c.args.parts.now (omega (arith, c.loop-part-test.false))) c.loop-part.invariant)

pub matches_only_empty-returns-in-Seq : goal.matches_only_empty-returns-in-Seq
matches_only_empty-returns-in-Seq t c =
    λ e. seq_quiet c.args.expr.now c.in-Seq.parts c.as_slice.result.now c.in-Seq.is c.as_slice.ensures
    (c.match_only_empty.ensures.in_order e)

pub matches_only_empty-returns-in-Alt : goal.matches_only_empty-returns-in-Alt
matches_only_empty-returns-in-Alt t c =
    λ e. alt_quiet c.args.expr.now c.in-Alt.parts c.as_slice-in-Alt.result.now c.in-Alt.is c.as_slice-in-Alt.ensures
    (c.match_only_empty-in-Alt.ensures.some e)

pub matches_only_empty-returns-else-is_never : goal.matches_only_empty-returns-else-is_never
matches_only_empty-returns-else-is_never t c =
    λ e. repeat_quiet c.args.expr.now c.in-Repeat.part c.get.result.now c.in-Repeat.field-1 c.in-Repeat.most
    c.in-Repeat.is c.get.ensures (c.matches_only_empty.ensures e)
