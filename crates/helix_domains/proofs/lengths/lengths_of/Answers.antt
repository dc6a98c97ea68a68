use Rattle.helix_domains.proofs.LengthLaws.{lengths_more, lengths_all}
use Rattle.helix_domains.proofs.lengths.lengths_of.Goals as goal

pub loop-signed-preserved : goal.loop-signed-preserved
loop-signed-preserved c = record {
  exact = lengths_more c.args.atoms.now c.loop-signed.signed-index c.signed-item.result c.loop-signed-test.true
      c.signed-item.is c.loop-signed.lengths c.in_ok-lengths.lengths c.loop-signed.invariant.exact
      c.in_ok-lengths.ensures.exact;
  end = c.in_ok-lengths.ensures.end;
}

pub returns-clause-exact : goal.returns-clause-exact
returns-clause-exact c = lengths_all c.args.atoms.now c.loop-signed.signed-index c.loop-signed.lengths
    c.loop-signed-test.false c.loop-signed.invariant.exact
