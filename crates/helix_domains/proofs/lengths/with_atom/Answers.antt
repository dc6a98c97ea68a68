use Rattle.helix_profile.specs.declared.test.Test.TheVariants as test
use Rattle.helix_domains.proofs.LengthLaws.{as_atom, as_atom_ok}
use Rattle.helix_domains.proofs.lengths.with_atom.Goals as goal

pub returns-in-OfLength-clause-exact : goal.returns-in-OfLength-clause-exact
returns-in-OfLength-clause-exact c = as_atom_ok c.args.signed.now (test.OfLength c.in-OfLength.count) c.args.lengths
    c.with_length.result c.in-OfLength.is c.with_length.ensures.exact

pub returns-in-LongerThan-clause-exact : goal.returns-in-LongerThan-clause-exact
returns-in-LongerThan-clause-exact c = as_atom c.args.signed.now (test.LongerThan c.in-LongerThan.count) c.args.lengths
    c.with_longer.result c.in-LongerThan.is c.with_longer.ensures.exact

pub returns-in-ShorterThan-clause-exact : goal.returns-in-ShorterThan-clause-exact
returns-in-ShorterThan-clause-exact c = as_atom c.args.signed.now (test.ShorterThan c.in-ShorterThan.count)
    c.args.lengths c.with_shorter.result c.in-ShorterThan.is c.with_shorter.ensures.exact
