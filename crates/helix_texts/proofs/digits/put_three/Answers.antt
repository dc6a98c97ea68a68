use Rattle.std.proofs.Common.{take}
use Rattle.helix_texts.proofs.DigitPairs.{three_put}
use Rattle.helix_texts.proofs.digits.put_three.Goals as goal

pub returns-clause-text : goal.returns-clause-text
returns-clause-text c = three_put (take c.args.at c.args.out.now) _ _ c.args.number c.requires.number
    c.put-hundreds.ensures.text c.put_two.ensures.text
