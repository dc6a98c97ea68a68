use Rattle.std.proofs.Common.{take}
use Rattle.helix_texts.proofs.DigitPairs.{two_put}
use Rattle.helix_texts.proofs.digits.put_two.Goals as goal

pub returns-clause-text : goal.returns-clause-text
returns-clause-text c = two_put (take c.args.at c.args.out.now) _ _ c.args.number c.requires.number
    c.put-tens.ensures.text c.put.ensures.text
