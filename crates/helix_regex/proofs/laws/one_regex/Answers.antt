use Rattle.helix_regex.proofs.OneRegex as one
use Rattle.helix_regex.proofs.laws.one_regex.Goals as goal

pub returns : goal.returns
returns c = one.one_regex
