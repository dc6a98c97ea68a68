use Rattle.std.proofs.Common.{take}
use Rattle.helix_texts.proofs.DigitPairs.{four_put}
use Rattle.helix_texts.proofs.digits.put_four.Goals as goal

pub returns-clause-text : goal.returns-clause-text
returns-clause-text c = four_put (take c.args.at c.args.out.now) _ _ c.args.number c.requires.number
    c.put_two-hundreds.ensures.text c.put_two.ensures.text
