use Rattle.std.proofs.Common.{sym, ◌∙◌}
use Rattle.helix_regex.proofs.Letters.{characters_more}
use Rattle.helix_regex.proofs.check.outside_alphabet.Goals as goal

pub loop-i-preserved : goal.loop-i-preserved
loop-i-preserved c = characters_more c.args.codes.now c.loop-i.i c.loop-i-test.true c.loop-i.invariant
    (sym c.has.ensures ∙ c.if-not-has.false)
