use Rattle.helix_command.proofs.Exclusion.{options_by_words}
use Rattle.helix_command.proofs.laws.options_by_words.Goals as goal

pub returns : goal.returns
returns c = options_by_words
