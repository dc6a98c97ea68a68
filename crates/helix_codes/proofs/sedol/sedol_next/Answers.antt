use Rattle.std.proofs.Common.{◌∙◌, sym}
use Rattle.helix_codes.proofs.SedolSteps.{sedol_on}
use Rattle.helix_codes.proofs.sedol.sedol_next.Goals as goal

pub returns-clause-words : goal.returns-clause-words
returns-clause-words c = sedol_on c.args.prefix.now c.args.c c.weighted.result
    (sym c.allows.ensures ∙ c.if-not-allows.false) c.weighted.ensures.product
