use Rattle.std.proofs.Common.{◌∙◌}
use Rattle.helix_texts.proofs.EndZeros.{none_left_out, some_digit}
use Rattle.helix_texts.proofs.put.without_end_zeros.Goals as goal

pub returns-clause-text : goal.returns-clause-text
returns-clause-text c =
    none_left_out c.shorter.result.0 c.shorter.result.1
    (some_digit c.shorter.result.0 c.shorter.result.1 c.shorter.ensures.some c.shorter.ensures.below)
    c.shorter.ensures.fewer
    ∙ (c.shorter.ensures.text ∙ (c.shorter-places-3.ensures.text
    ∙ (c.shorter-places-2.ensures.text ∙ c.shorter-places.ensures.text)))
