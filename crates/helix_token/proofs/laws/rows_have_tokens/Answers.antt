use Rattle.helix_token.proofs.Faults.{token_no_fault}
use Rattle.helix_token.proofs.laws.rows_have_tokens.Goals as goal

pub returns : goal.returns
returns c = token_no_fault
