use Rattle.helix_options.proofs.Judging.{test_refuted, left_refuted, right_refuted}
use Rattle.helix_options.proofs.standing.is_refuted.Goals as goal

pub returns-in-Plain : goal.returns-in-Plain
returns-in-Plain c = test_refuted c.args.nullable.now c.args.literals.now c.args.literal.now c.args.sign
    c.in-Plain.atom _ _ _ _ c.in-Plain.is c.both_or_none.ensures c.is_test_refuted.ensures

pub returns-then-contradict : goal.returns-then-contradict
returns-then-contradict c = left_refuted c.args.nullable.now c.args.literals.now c.args.literal.now c.args.sign
    c.in-Joined.relation _ _ _ _ c.in-Joined.is c.contradict-in-Joined.ensures c.if-contradict.true
    c.if-contradict.true

pub returns-else-contradict : goal.returns-else-contradict
returns-else-contradict c = right_refuted c.args.nullable.now c.args.literals.now c.args.literal.now c.args.sign
    c.in-Joined.relation _ _ _ _ c.in-Joined.is c.contradict-in-Joined.ensures c.if-contradict.false
    c.contradict-else-contradict.ensures
