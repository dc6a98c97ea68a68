use Rattle.helix_explain.proofs.Cores.{one_core}
use Rattle.helix_explain.proofs.laws.one_core.Goals as goal

pub returns : goal.returns
returns g c = λ ask count a b. one_core (g.E.Emptiness.Empties ask) count a b
