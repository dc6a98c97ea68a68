use Rattle.helix_words.proofs.LengthsMore.{has_by_least, has_by_none}
use Rattle.helix_words.proofs.lengths.has_length.Goals as goal

pub returns-in-Some : goal.returns-in-Some
returns-in-Some c = has_by_least c.args.words.now c.args.count c.in-Some.least c.in-Some.ensures.some

pub returns-in-None : goal.returns-in-None
returns-in-None c = has_by_none c.args.words.now c.args.count c.in-None.ensures.none
