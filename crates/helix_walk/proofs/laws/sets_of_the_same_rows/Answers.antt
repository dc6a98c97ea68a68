use Rattle.helix_walk.proofs.NextRows.{next_of_same}
use Rattle.helix_walk.proofs.laws.sets_of_the_same_rows.Goals as goal

pub returns : goal.returns
returns g c = λ set other. next_of_same (g.S.RowSet.Has set) (g.T.RowSet.Has other)
