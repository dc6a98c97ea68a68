use Rattle.std.proofs.Common.{List, ℕ, subst, sym, ◌∙◌}
use Rattle.helix_texts.specs.Inner.Reading.{BeginsWithDate}
use Rattle.helix_texts.proofs.ReadTimes.{not_empty, no_moment, no_time}
use Rattle.helix_texts.proofs.moments.moment_of.Goals as goal

pub returns-in_default-clause-none : goal.returns-in_default-clause-none
returns-in_default-clause-none c = λ at.
    no_moment c.args.text.now at
    (subst (λ t. (y m d : ℕ) (rest : List ℕ) → BeginsWithDate t y m d rest
    → ⊥) c.codes.ensures.value c.in_default.ensures.none)

pub returns-in-None-clause-none : goal.returns-in-None-clause-none
returns-in-None-clause-none c = λ at.
    no_time c.args.text.now _ _ _ c.in-Some.rest.now at
    (subst (λ t. BeginsWithDate t c.in-Some.date.year c.in-Some.date.month c.in-Some.date.day c.in-Some.rest.now)
    c.codes.ensures.value c.in-Some.ensures.some)
    (not_empty c.in-Some.rest.now (sym c.is_empty.ensures ∙ c.if-is_empty.false)) c.in-None.ensures.none
