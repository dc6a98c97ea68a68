use Rattle.helix_texts.proofs.ReadTimes.{no_clock, no_time_end, counts_time}
use Rattle.helix_texts.proofs.moments.millis_after.Goals as goal

pub returns-then-not-is_clock-clause-none : goal.returns-then-not-is_clock-clause-none
returns-then-not-is_clock-clause-none c = λ time.
    no_clock c.args.codes.now c.in-Some.text.now _ _ _ c.in-Some-split_three.rest.now time c.in-Some.ensures.some
    c.in-Some-split_three.ensures.some
    (λ clock. let is = c.is_clock.ensures.1 clock in cc)

pub returns-in-Some-thousandths_of-clause-some : goal.returns-in-Some-thousandths_of-clause-some
returns-in-Some-thousandths_of-clause-some c =
    counts_time c.args.codes.now c.in-Some.text.now _ _ _ c.in-Some-thousandths_of.fraction
    c.in-Some-split_three.rest.now c.in-Some.ensures.some c.in-Some-split_three.ensures.some
    (c.is_clock.ensures.0 c.if-not-is_clock.false) c.in-Some-thousandths_of.ensures.some

pub returns-in-None-clause-none : goal.returns-in-None-clause-none
returns-in-None-clause-none c = λ time.
    no_time_end c.args.codes.now c.in-Some.text.now _ _ _ c.in-Some-split_three.rest.now time c.in-Some.ensures.some
    c.in-Some-split_three.ensures.some c.in-None.ensures.none
