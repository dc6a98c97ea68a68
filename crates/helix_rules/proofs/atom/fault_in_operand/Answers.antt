use Rattle.helix_rules.proofs.Atomic.{operand_says, no_operand_says}
use Rattle.helix_rules.proofs.atom.fault_in_operand.Goals as goal

pub returns-in_ok-found-in-Some : goal.returns-in_ok-found-in-Some
returns-in_ok-found-in-Some c = operand_says c.args.rule c.args.atom c.args.v.now c.word-word.result.now
    c.word-word.ensures c.in-Some.operand.now c.in_ok-found-in-Some.found c.within.result c.in-Some.ensures c.in_ok-found-in-Some.ensures
    c.within.ensures

pub returns-in-None : goal.returns-in-None
returns-in-None c = no_operand_says c.args.rule c.args.atom c.args.v.now c.word-word.result.now c.word-word.ensures
    c.in-None.ensures
