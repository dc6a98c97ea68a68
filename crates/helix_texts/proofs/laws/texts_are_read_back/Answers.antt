use Rattle.helix_texts.proofs.TextLaws.{written, one, different}
use Rattle.helix_texts.proofs.laws.texts_are_read_back.Goals as goal

pub returns-clause-written : goal.returns-clause-written
returns-clause-written c = written

pub returns-clause-one : goal.returns-clause-one
returns-clause-one c = one

pub returns-clause-different : goal.returns-clause-different
returns-clause-different c = different
