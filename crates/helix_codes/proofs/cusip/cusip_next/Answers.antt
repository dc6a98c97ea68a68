use Rattle.std.proofs.Common.{◌∙◌, sym}
use Rattle.helix_codes.proofs.CusipSteps.{cusip_on}
use Rattle.helix_codes.proofs.cusip.cusip_next.Goals as goal

pub returns-clause-words : goal.returns-clause-words
returns-clause-words c = cusip_on c.args.prefix.now c.args.c c.value_of.result c.doubled.result
    (sym c.allows.ensures ∙ c.if-not-allows.false) c.value_of.ensures.value c.doubled.ensures.sum
