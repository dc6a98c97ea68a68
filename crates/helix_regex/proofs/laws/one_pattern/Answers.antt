use Rattle.helix_regex.proofs.ReadingPatterns as reading
use Rattle.helix_regex.proofs.laws.one_pattern.Goals as goal

pub returns : goal.returns
returns c = reading.one_pattern
