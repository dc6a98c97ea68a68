use Rattle.helix_token.proofs.Faults.{text_tells_row, token_tells_row}
use Rattle.helix_token.proofs.laws.tokens_tell_rows.Goals as goal

pub returns-clause-text : goal.returns-clause-text
returns-clause-text c = text_tells_row

pub returns-clause-bytes : goal.returns-clause-bytes
returns-clause-bytes c = token_tells_row
