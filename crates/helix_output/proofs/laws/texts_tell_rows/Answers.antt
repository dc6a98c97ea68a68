use Rattle.helix_output.proofs.ToldRows.{rows_told}
use Rattle.helix_output.proofs.laws.texts_tell_rows.Goals as goal

pub returns : goal.returns
returns c = rows_told
