use Rattle.helix_texts.proofs.ReadTimes.{no_date}
use Rattle.helix_texts.proofs.moments.split_date.Goals as goal

pub returns-then-not-is_date-clause-none : goal.returns-then-not-is_date-clause-none
returns-then-not-is_date-clause-none c =
    λ y m d rest. no_date c.args.codes.now _ _ _ y m d _ rest c.in-Some.ensures.some
    (λ date. let is = c.is_date.ensures.1 date in cc)
