use Rattle.helix_references.proofs.Endings.{zero_more, digit_more}
use Rattle.helix_references.proofs.whole.push_digit.Goals as goal

pub returns-then-digit-clause-ends : goal.returns-then-digit-clause-ends
returns-then-digit-clause-ends c = λ value ends. zero_more value c.args.ending.zeros c.args.digit c.args.ending.some
    c.if-digit.true ends

pub returns-else-digit-clause-ends : goal.returns-else-digit-clause-ends
returns-else-digit-clause-ends c = λ value ends. digit_more value c.args.ending.zeros c.args.digit c.args.ending.some
    c.if-digit.false c.requires.digit.0 c.requires.digit.1 ends
