use Rattle.helix_texts.proofs.ReadMoments.{no_second, no_third}
use Rattle.helix_texts.proofs.moments.split_three.Goals as goal

pub returns-in_default-split_part-clause-none : goal.returns-in_default-split_part-clause-none
returns-in_default-split_part-clause-none c = λ a b d rest.
    no_second c.args.codes.now c.args.width c.args.mark c.in-Some.first a b d c.in-Some.rest.now rest
    c.in-Some.ensures.some c.in_default-split_part.ensures.none

pub returns-in_default-split_number-clause-none : goal.returns-in_default-split_number-clause-none
returns-in_default-split_number-clause-none c = λ a b d rest.
    no_third c.args.codes.now c.args.width c.args.mark c.in-Some.first c.in-Some-split_part.second a b d
    c.in-Some.rest.now c.in-Some-split_part.rest.now rest c.in-Some.ensures.some
    c.in-Some-split_part.ensures.some c.in_default-split_number.ensures.none
