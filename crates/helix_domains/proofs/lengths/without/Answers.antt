use Rattle.std.proofs.Common.{refl}
use Rattle.helix_domains.proofs.LengthLaws.{without_one}
use Rattle.helix_domains.proofs.lengths.without.Goals as goal

pub returns-clause-exact : goal.returns-clause-exact
returns-clause-exact c = without_one c.args.lengths _ c.args.length refl refl c.in_ok-push.ensures.ok
