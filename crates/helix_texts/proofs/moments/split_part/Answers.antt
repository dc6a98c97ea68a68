use Rattle.helix_texts.proofs.ReadMoments.{no_mark_after}
use Rattle.helix_texts.proofs.moments.split_part.Goals as goal

pub returns-in-None-clause-none : goal.returns-in-None-clause-none
returns-in-None-clause-none c = λ n rest. no_mark_after c.args.codes.now c.args.width c.args.mark c.in-Some.number n
    c.in-Some.after.now rest c.in-Some.ensures.some c.in-None.ensures.none
