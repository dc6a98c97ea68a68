use Rattle.std.proofs.Common.{sym}
use Rattle.std.proofs.lemmas.List.{take-append-drop}
use Rattle.helix_texts.proofs.ReadMoments.{too_short, no_number_in_prefix}
use Rattle.helix_texts.proofs.moments.split_number.Goals as goal

pub returns-then-codes-width-clause-none : goal.returns-then-codes-width-clause-none
returns-then-codes-width-clause-none c = λ n rest. too_short c.args.codes.now c.args.width n rest c.if-codes-width.true

pub returns-in-None-clause-none : goal.returns-in-None-clause-none
returns-in-None-clause-none c = λ n rest.
    no_number_in_prefix c.args.codes.now c.split_at.result.0.now c.split_at.result.1.now c.args.width n rest
    (rw (c.split_at.ensures.front, c.split_at.ensures.back) (sym (take-append-drop c.args.width c.args.codes.now)))
    c.split_at.ensures.front_len c.in-None.ensures.none
