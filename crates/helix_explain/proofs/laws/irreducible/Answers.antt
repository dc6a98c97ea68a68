use Rattle.helix_explain.proofs.Cores.{irreducible}
use Rattle.helix_explain.proofs.laws.irreducible.Goals as goal

pub returns : goal.returns
returns g c = λ ask count n a b. irreducible (g.E.Emptiness.Empties ask) count n a b
