use Rattle.helix_domains.proofs.Automata.{narrowed_more, narrowed_all}
use Rattle.helix_domains.proofs.patterns.dfas_of.Goals as goal

pub loop-signed-preserved : goal.loop-signed-preserved
loop-signed-preserved c = narrowed_more c.args.kind c.args.atoms.now c.loop-signed.signed-index c.signed-item.result
    c.loop-signed-test.true c.signed-item.is c.loop-signed.dfas.items c.push_atom.new.dfas.items c.loop-signed.invariant
    c.in_ok-push_atom.ensures

pub returns : goal.returns
returns c = narrowed_all c.args.kind c.args.atoms.now c.loop-signed.signed-index c.loop-signed.dfas.items
    c.loop-signed-test.false c.loop-signed.invariant
