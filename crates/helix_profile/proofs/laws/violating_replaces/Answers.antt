use Rattle.helix_profile.proofs.Violating.{violating_is}
use Rattle.helix_profile.proofs.laws.violating_replaces.Goals as goal

pub returns : goal.returns
returns c = violating_is
