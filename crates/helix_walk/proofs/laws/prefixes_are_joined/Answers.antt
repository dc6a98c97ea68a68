use Rattle.helix_walk.proofs.NextRows.{prefix_joined, rest_joined}
use Rattle.helix_walk.proofs.laws.prefixes_are_joined.Goals as goal

pub returns-clause-prefix : goal.returns-clause-prefix
returns-clause-prefix g c = λ set. prefix_joined (g.S.RowSet.Has set)

pub returns-clause-rest : goal.returns-clause-rest
returns-clause-rest g c = λ set. rest_joined (g.S.RowSet.Has set)
