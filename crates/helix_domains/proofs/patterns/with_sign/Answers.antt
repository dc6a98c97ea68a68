use Rattle.helix_domains.proofs.Automata.{signed_false}
use Rattle.helix_domains.proofs.patterns.with_sign.Goals as goal

pub returns-else-sign : goal.returns-else-sign
returns-else-sign c = signed_false c.args.sign c.args.dfa c.complement.result c.if-sign.false c.complement.ensures
