use Rattle.helix_domains.proofs.Automata.{listed_true}
use Rattle.helix_domains.proofs.patterns.set_dfa.Goals as goal

pub returns-then-sign : goal.returns-then-sign
returns-then-sign c = listed_true c.args.sign c.args.cells.now c.in_ok-others.others c.complement.result c.if-sign.true
    c.in_ok-others.ensures c.complement.ensures
