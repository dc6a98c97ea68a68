use Rattle.helix_walk.proofs.NextRows.{next_prefix, next_rest, next_joined}
use Rattle.helix_walk.proofs.laws.next_rows.Goals as goal

pub returns-clause-prefix : goal.returns-clause-prefix
returns-clause-prefix g c = λ set. next_prefix (g.S.RowSet.Has set)

pub returns-clause-rest : goal.returns-clause-rest
returns-clause-rest g c = λ set. next_rest (g.S.RowSet.Has set)

pub returns-clause-joined : goal.returns-clause-joined
returns-clause-joined g c = λ set. next_joined (g.S.RowSet.Has set)
