use Rattle.std.proofs.Common.{◌∙◌, sym}
use Rattle.helix_codes.proofs.IsinSteps.{isin_on}
use Rattle.helix_codes.proofs.isin.isin_next.Goals as goal

pub returns-clause-words : goal.returns-clause-words
returns-clause-words c = isin_on c.args.prefix.now c.args.c c.sums_before-even.result.0 c.sums_before-even.result.1
    c.character_sum.result c.character_sum-2.result (sym c.allows.ensures ∙ c.if-not-allows.false)
    c.sums_before-even.ensures.even c.sums_before-even.ensures.odd c.character_sum.ensures.sum
    c.character_sum-2.ensures.sum
